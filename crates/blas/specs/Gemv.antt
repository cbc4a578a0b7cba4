-- gemv: y ← alpha op(A) x + beta y.
-- The Rust decides: with beta 0 ZERO stands for the old element, whatever it is, and beta 1 keeps it; the sum begins at ZERO, runs by rising index and is multiplied by alpha
-- as a whole, with no shortcut for alpha 0 or an empty sum.
use Rattle.number.specs.Kind.{Kind}
use Rattle.number.specs.Scaling.{scaled}
use Rattle.slabs.specs.Elem.{Lent}
use Rattle.slabs.specs.Update.{everywhere, update}
use Rattle.blas.specs.Matrix.{matrix, vector, op, dot, accumulate}
use Rattle.blas.specs.Outcome.{Outcome, outcome}
use Rattle.view.specs.declared.Trans.{Trans}
use Rattle.view.specs.Checks.{op_cols, gemv_check}
use Rattle.view.specs.Vector.{column_of}

unfoldable pub gemv : (K : Kind) → Trans → K.Elem → Lent K → Lent K → K.Elem → Lent K → Outcome K
gemv K trans alpha a x beta y =
    outcome K
    (gemv_check trans a.view (K.count a.slab) x.view (K.count x.slab) y.view (K.count y.slab))
    (update K (column_of y.view) everywhere
    (accumulate K (scaled K beta) (K.mul alpha) (dot K (op_cols trans a.view) (op K trans (matrix K a)) (vector K x)))
    y.slab)
    y.slab
