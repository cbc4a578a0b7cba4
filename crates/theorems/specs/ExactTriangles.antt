-- The triangular products trmv and trmm on whole numbers of document 01's range. Of a call that answers 0: each element of the target is, as a
-- number, the papers' formula over whole numbers. Of A only the named triangle has to be whole, without its diagonal where that is Unit.
use Rattle.std.specs.Prelude.{ℕ, Bool, cond, ◌&&◌, ◌≡◌, eqb}
use Rattle.number.specs.Kind.{Kind}
use Rattle.view.specs.declared.Trans.{Trans}
use Rattle.view.specs.declared.UpLo.{UpLo}
use Rattle.view.specs.declared.Diag.{Diag}
use Rattle.view.specs.declared.Side.{Side}
use Rattle.view.specs.Checks.{order_of}
use Rattle.view.specs.Triangle.{in_triangle}
use Rattle.slabs.specs.Elem.{Lent}
use Rattle.slabs.specs.Update.{everywhere}
use Rattle.blas.specs.Matrix.{Matrix, op}
use Rattle.blas.specs.Triangular.{is_unit}
use Rattle.blas.specs.Trmv.{trmv}
use Rattle.blas.specs.Trmm.{trmm}
use Rattle.theorems.specs.Exactness.{Wholes, Scalar, Shows, ShowsVector, Leaves, LeavesVector, times_vector}
use Rattle.theorems.specs.ExactProducts.{on_side}
use Rattle.theorems.specs.TriangularAgreement.{named}

-- (i, j) is on a Unit diagonal
abbrev pub on_unit : Diag → ℕ → ℕ → Bool
on_unit diag i j = is_unit diag && eqb i j

-- the triangular matrix of A: A's elements in the named triangle, ONE on a Unit diagonal, ZERO outside the triangle
abbrev pub triangle_of : (Z : Kind) → UpLo → Diag → Matrix Z → Matrix Z
triangle_of Z uplo diag a i j = cond (in_triangle uplo i j) (cond (on_unit diag i j) Z.one (a i j)) Z.zero

module _ {K Z : Kind} (W : Wholes K Z) where
  -- x ← op(A) x, A triangular
  abbrev pub TrmvExact : Type 0
  TrmvExact =
      (uplo : UpLo) (trans : Trans) (diag : Diag) (a x : Lent K) (za : Matrix Z) (zx : ℕ → Z.Elem)
      → Shows W (named uplo diag) a za → ShowsVector W x zx
      → (trmv K uplo trans diag a x).answer ≡ 0
      → LeavesVector W (trmv K uplo trans diag a x).slab x (times_vector Z a.view.rows (op Z trans (triangle_of Z uplo diag za)) zx)

  -- B ← alpha op(A) B or alpha B op(A), A triangular
  abbrev pub TrmmExact : Type 0
  TrmmExact =
      (side : Side) (uplo : UpLo) (trans : Trans) (diag : Diag) (alpha : K.Elem) (a b : Lent K) (zalpha : Z.Elem) (za zb : Matrix Z)
      → Scalar W alpha zalpha → Shows W (named uplo diag) a za → Shows W everywhere b zb
      → (trmm K side uplo trans diag alpha a b).answer ≡ 0
      → Leaves W everywhere (trmm K side uplo trans diag alpha a b).slab b
      (λ i j. Z.mul zalpha (on_side Z side (order_of side b.view) (op Z trans (triangle_of Z uplo diag za)) zb i j))

  -- both
  pub record TrianglesExact : Type 0 where
    pub trmv : TrmvExact
    pub trmm : TrmmExact
