-- hemv: y ← alpha A x + beta y, A Hermitian, of which the named triangle is read.
-- The Rust decides: a diagonal element is read whole, its imaginary part too; beta, the sum and alpha are as in gemm.
use Rattle.number.specs.Kind.{Kind}
use Rattle.number.specs.Scaling.{scaled}
use Rattle.slabs.specs.Elem.{Lent}
use Rattle.slabs.specs.Update.{everywhere, update}
use Rattle.blas.specs.Matrix.{matrix, vector, hermitian, dot, accumulate}
use Rattle.blas.specs.Outcome.{Outcome, outcome}
use Rattle.view.specs.declared.UpLo.{UpLo}
use Rattle.view.specs.Checks.{hemv_check}
use Rattle.view.specs.Vector.{column_of}

unfoldable pub hemv : (K : Kind) → UpLo → K.Elem → Lent K → Lent K → K.Elem → Lent K → Outcome K
hemv K uplo alpha a x beta y =
    outcome K
    (hemv_check a.view (K.count a.slab) x.view (K.count x.slab) y.view (K.count y.slab))
    (update K (column_of y.view) everywhere
    (accumulate K (scaled K beta) (K.mul alpha) (dot K a.view.rows (hermitian K uplo (matrix K a)) (vector K x)))
    y.slab)
    y.slab
