-- Each number is less its run so far (Runs: less_on, less_done).
use Rattle.std.proofs.Common.{◌-◌, ◌+◌}
use Rattle.number.specs.Kind.{kind}
use Rattle.slabs.specs.Eight.{lane, Lanes}
use Rattle.blas.specs.Substitution.{minus_terms}
use Rattle.triangle_plan.specs.Multiply.{line_term}
use Rattle.triangle_lines.proofs.unknown.reduce.Given as goal

abbrev pub invariant-loop-p : goal.invariant-loop-p
invariant-loop-p g l =
    let K = kind g.N.Number.numbers in
    Lanes K g.row.W l.rest (λ t. minus_terms K (lane K l.fn.xs t) (line_term K l.sys l.a l.b l.q (l.l + t)) l.from (l.p - l.from))
