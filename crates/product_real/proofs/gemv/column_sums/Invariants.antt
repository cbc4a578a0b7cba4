-- Each of the eight sums has the terms before p.
use Rattle.std.proofs.Common.{◌+◌}
use Rattle.number.specs.Kind.{kind}
use Rattle.slabs.specs.Eight.{Lanes}
use Rattle.blas.specs.Matrix.{sum}
use Rattle.product_plan.specs.Plan.{term}
use Rattle.product_real.proofs.gemv.column_sums.Given as goal

abbrev pub invariant-loop-p : goal.invariant-loop-p
invariant-loop-p g l = let K = kind g.R.Number.numbers in Lanes K 8 l.sums (λ t. sum K l.p (term K l.plan.factors l.ops.a.now l.ops.b.now (l.i + t) 0))
