-- Each sum is its run so far (Runs: more_on, more_done).
use Rattle.std.proofs.Common.{◌-◌, ◌+◌}
use Rattle.number.specs.Kind.{kind}
use Rattle.slabs.specs.Eight.{lane, Lanes}
use Rattle.slabs.specs.Run.{plus_terms}
use Rattle.triangle_plan.specs.Multiply.{line_term}
use Rattle.triangle_lines.proofs.line.add_run.Given as goal

abbrev pub invariant-loop-p : goal.invariant-loop-p
invariant-loop-p g l =
    let K = kind g.N.Number.numbers in
    Lanes K g.row.W l.sums (λ t. plus_terms K (lane K l.fn.xs t) (line_term K l.sys l.a l.b l.q (l.l + t)) l.from (l.p - l.from))
