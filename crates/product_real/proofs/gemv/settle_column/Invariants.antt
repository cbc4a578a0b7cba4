-- The rows of the block before i are settled.
use Rattle.std.proofs.Common.{◌≡◌, ◌-◌}
use Rattle.number.specs.Kind.{kind}
use Rattle.number.specs.Scaling.{scale_by}
use Rattle.slabs.specs.Eight.{lane}
use Rattle.slabs.specs.Update.{span_rows}
use Rattle.blas.specs.Matrix.{accumulate}
use Rattle.product_real.proofs.gemv.settle_column.Given as goal

abbrev pub invariant-loop-i : goal.invariant-loop-i
invariant-loop-i g l =
    let n = g.R.Number.numbers in
    let m = g.R.Number.multipliers in
    l.c ≡ span_rows (kind n) l.v (accumulate (kind n) (scale_by n m l.ops.beta) (m.times l.ops.alpha) (λ i j. lane (kind n) l.sums (i - l.from))) l.first l.i l.fn.c
