-- trmv: x ← op(A) x, A triangular; every element is worked out from x as lent.
-- The Rust decides: there is no alpha; the sum begins at ZERO and runs by rising index over the triangle's elements alone, the others being skipped and not
-- taken as zeros; a Unit diagonal is unread and counts as ONE, by which x's element is multiplied.
use Rattle.number.specs.Kind.{Kind}
use Rattle.slabs.specs.Elem.{Lent}
use Rattle.slabs.specs.Update.{everywhere, update}
use Rattle.blas.specs.Matrix.{matrix, vector}
use Rattle.blas.specs.Triangular.{triangular_dot}
use Rattle.blas.specs.Outcome.{Outcome, outcome}
use Rattle.view.specs.declared.Trans.{Trans}
use Rattle.view.specs.declared.UpLo.{UpLo}
use Rattle.view.specs.declared.Diag.{Diag}
use Rattle.view.specs.declared.Side.TheVariants.{Left}
use Rattle.view.specs.Checks.{order_of, trmv_check}
use Rattle.view.specs.Vector.{column_of}

unfoldable pub trmv : (K : Kind) → UpLo → Trans → Diag → Lent K → Lent K → Outcome K
trmv K uplo trans diag a x =
    outcome K
    (trmv_check a.view (K.count a.slab) x.view (K.count x.slab))
    (update K (column_of x.view) everywhere
    (λ i j old. triangular_dot K Left uplo trans diag (order_of Left (column_of x.view)) (matrix K a) (vector K x) i j)
    x.slab)
    x.slab
