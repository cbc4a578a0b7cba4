-- Each sum is its run so far (Runs: more_first; Rows: rows_on).
use Rattle.std.proofs.Common.{◌-◌, ◌+◌}
use Rattle.number.specs.Kind.{kind}
use Rattle.slabs.specs.Eight.{lane, Lanes}
use Rattle.slabs.specs.Run.{plus_terms}
use Rattle.triangle_plan.specs.Multiply.{line_term}
use Rattle.triangle_real.proofs.rows.add_rows.Given as goal

abbrev pub invariant-loop-p : goal.invariant-loop-p
invariant-loop-p g l =
    let K = kind g.R.Number.numbers in
    Lanes K 8 l.sums (λ t. plus_terms K (lane K l.fn.xs t) (line_term K l.sys l.a l.b (l.q + t) 0) l.from (l.p - l.from))
