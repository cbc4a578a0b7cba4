-- hemm: C ← alpha A B + beta C (Left) or alpha B A + beta C (Right), A Hermitian, of which the named triangle is read.
-- The Rust decides: a diagonal element is read whole, its imaginary part too; beta, the sum and alpha are as in gemm.
use Rattle.number.specs.Kind.{Kind}
use Rattle.number.specs.Scaling.{scaled}
use Rattle.slabs.specs.Elem.{Lent}
use Rattle.slabs.specs.Update.{everywhere, update}
use Rattle.blas.specs.Matrix.{Matrix, matrix, hermitian, dot, accumulate}
use Rattle.blas.specs.Outcome.{Outcome, outcome}
use Rattle.view.specs.declared.Side.{Side}
use Rattle.view.specs.declared.Side.TheVariants.{Left, Right}
use Rattle.view.specs.declared.UpLo.{UpLo}
use Rattle.view.specs.Checks.{order_of, hemm_check}

-- A B or B A, in that order of operands
abbrev pub hemm_product : (K : Kind) → Side → UpLo → Lent K → Lent K → Lent K → Matrix K
hemm_product K Left uplo a b c = dot K (order_of Left c.view) (hermitian K uplo (matrix K a)) (matrix K b)
hemm_product K Right uplo a b c = dot K (order_of Right c.view) (matrix K b) (hermitian K uplo (matrix K a))

unfoldable pub hemm : (K : Kind) → Side → UpLo → K.Elem → Lent K → Lent K → K.Elem → Lent K → Outcome K
hemm K side uplo alpha a b beta c =
    outcome K
    (hemm_check side a.view (K.count a.slab) b.view (K.count b.slab) c.view (K.count c.slab))
    (update K c.view everywhere (accumulate K (scaled K beta) (K.mul alpha) (hemm_product K side uplo a b c)) c.slab)
    c.slab
