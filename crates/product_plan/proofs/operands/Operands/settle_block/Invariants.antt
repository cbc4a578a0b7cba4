-- The columns of the block before j are settled.
use Rattle.std.proofs.Common.{◌≡◌, ◌-◌}
use Rattle.number.specs.Kind.{kind}
use Rattle.number.specs.Scaling.{scale_by}
use Rattle.slabs.specs.Eight.{lane}
use Rattle.slabs.specs.Update.{span}
use Rattle.blas.specs.Matrix.{accumulate}
use Rattle.product_plan.proofs.operands.Operands.settle_block.Given as goal

abbrev pub invariant-loop-j : goal.invariant-loop-j
invariant-loop-j g l =
    let n = g.N.Number.numbers in
    let m = g.N.Number.multipliers in
    l.c ≡ span (kind n) l.v (accumulate (kind n) (scale_by n m l.self.beta) (m.times l.self.alpha) (λ i j. lane (kind n) l.sums (j - l.from))) l.i l.first l.j l.fn.c
