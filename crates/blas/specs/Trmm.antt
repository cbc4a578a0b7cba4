-- trmm: B ← alpha op(A) B (Left) or alpha B op(A) (Right), A triangular; every element is worked out from B as lent.
-- The Rust decides: the sum and a Unit diagonal are as in trmv; alpha multiplies the sum as a whole, which is written and not added to ZERO; there is no
-- shortcut for alpha 0.
use Rattle.number.specs.Kind.{Kind}
use Rattle.slabs.specs.Elem.{Lent}
use Rattle.slabs.specs.Update.{everywhere, update}
use Rattle.blas.specs.Matrix.{matrix}
use Rattle.blas.specs.Triangular.{triangular_dot}
use Rattle.blas.specs.Outcome.{Outcome, outcome}
use Rattle.view.specs.declared.Trans.{Trans}
use Rattle.view.specs.declared.UpLo.{UpLo}
use Rattle.view.specs.declared.Diag.{Diag}
use Rattle.view.specs.declared.Side.{Side}
use Rattle.view.specs.Checks.{order_of, trmm_check}

unfoldable pub trmm : (K : Kind) → Side → UpLo → Trans → Diag → K.Elem → Lent K → Lent K → Outcome K
trmm K side uplo trans diag alpha a b =
    outcome K
    (trmm_check side a.view (K.count a.slab) b.view (K.count b.slab))
    (update K b.view everywhere
    (λ i j old. K.mul alpha (triangular_dot K side uplo trans diag (order_of side b.view) (matrix K a) (matrix K b) i j))
    b.slab)
    b.slab
