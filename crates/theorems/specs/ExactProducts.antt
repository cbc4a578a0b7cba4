-- The seven products on whole numbers of document 01's range. Of a call that answers 0: each element of the target that the routine writes is,
-- as a number, the papers' formula over whole numbers. Only what the routine reads has to be whole: of a symmetric or Hermitian A the named
-- triangle, and of the target what is written, unless beta is zero.
use Rattle.std.specs.Prelude.{ℕ, false, ◌≡◌}
use Rattle.number.specs.Kind.{Kind}
use Rattle.view.specs.declared.Trans.{Trans}
use Rattle.view.specs.declared.UpLo.{UpLo}
use Rattle.view.specs.declared.Side.{Side}
use Rattle.view.specs.declared.Side.TheVariants.{Left, Right}
use Rattle.view.specs.Checks.{op_cols, order_of}
use Rattle.slabs.specs.Elem.{Lent}
use Rattle.slabs.specs.Update.{everywhere}
use Rattle.blas.specs.Matrix.{Matrix, op, symmetric, hermitian, dot}
use Rattle.view.specs.Triangle.{in_triangle}
use Rattle.blas.specs.Gemv.{gemv}
use Rattle.blas.specs.Hemv.{hemv}
use Rattle.blas.specs.Gemm.{gemm}
use Rattle.blas.specs.Symm.{symm}
use Rattle.blas.specs.Hemm.{hemm}
use Rattle.blas.specs.Syrk.{syrk, syrk_left, syrk_right}
use Rattle.blas.specs.Herk.{herk, herk_left, herk_right}
use Rattle.theorems.specs.Exactness.{Wholes, Scalar, RealScalar, Shows, ShowsVector, Leaves, LeavesVector, combined, combined_real, times_vector}

-- A B or B A, of n products an element
abbrev pub on_side : (Z : Kind) → Side → ℕ → Matrix Z → Matrix Z → Matrix Z
on_side Z Left n a b = dot Z n a b
on_side Z Right n a b = dot Z n b a

module _ {K Z : Kind} (W : Wholes K Z) where
  -- y ← alpha op(A) x + beta y
  abbrev pub GemvExact : Type 0
  GemvExact =
      (trans : Trans) (alpha : K.Elem) (a x : Lent K) (beta : K.Elem) (y : Lent K)
      (zalpha : Z.Elem) (za : Matrix Z) (zx : ℕ → Z.Elem) (zbeta : Z.Elem) (zy : ℕ → Z.Elem)
      → Scalar W alpha zalpha → Shows W everywhere a za → ShowsVector W x zx → Scalar W beta zbeta → (Z.is_zero zbeta ≡ false → ShowsVector W y zy)
      → (gemv K trans alpha a x beta y).answer ≡ 0
      → LeavesVector W (gemv K trans alpha a x beta y).slab y
      (λ i. combined Z zbeta (zy i) zalpha (times_vector Z (op_cols trans a.view) (op Z trans za) zx i))

  -- y ← alpha A x + beta y, A Hermitian
  abbrev pub HemvExact : Type 0
  HemvExact =
      (uplo : UpLo) (alpha : K.Elem) (a x : Lent K) (beta : K.Elem) (y : Lent K)
      (zalpha : Z.Elem) (za : Matrix Z) (zx : ℕ → Z.Elem) (zbeta : Z.Elem) (zy : ℕ → Z.Elem)
      → Scalar W alpha zalpha → Shows W (in_triangle uplo) a za → ShowsVector W x zx → Scalar W beta zbeta → (Z.is_zero zbeta ≡ false → ShowsVector W y zy)
      → (hemv K uplo alpha a x beta y).answer ≡ 0
      → LeavesVector W (hemv K uplo alpha a x beta y).slab y
      (λ i. combined Z zbeta (zy i) zalpha (times_vector Z a.view.rows (hermitian Z uplo za) zx i))

  -- C ← alpha op(A) op(B) + beta C
  abbrev pub GemmExact : Type 0
  GemmExact =
      (ta tb : Trans) (alpha : K.Elem) (a b : Lent K) (beta : K.Elem) (c : Lent K)
      (zalpha : Z.Elem) (za zb : Matrix Z) (zbeta : Z.Elem) (zc : Matrix Z)
      → Scalar W alpha zalpha → Shows W everywhere a za → Shows W everywhere b zb → Scalar W beta zbeta → (Z.is_zero zbeta ≡ false → Shows W everywhere c zc)
      → (gemm K ta tb alpha a b beta c).answer ≡ 0
      → Leaves W everywhere (gemm K ta tb alpha a b beta c).slab c
      (λ i j. combined Z zbeta (zc i j) zalpha (dot Z (op_cols ta a.view) (op Z ta za) (op Z tb zb) i j))

  -- C ← alpha A B + beta C or alpha B A + beta C, A symmetric
  abbrev pub SymmExact : Type 0
  SymmExact =
      (side : Side) (uplo : UpLo) (alpha : K.Elem) (a b : Lent K) (beta : K.Elem) (c : Lent K)
      (zalpha : Z.Elem) (za zb : Matrix Z) (zbeta : Z.Elem) (zc : Matrix Z)
      → Scalar W alpha zalpha → Shows W (in_triangle uplo) a za → Shows W everywhere b zb → Scalar W beta zbeta → (Z.is_zero zbeta ≡ false → Shows W everywhere c zc)
      → (symm K side uplo alpha a b beta c).answer ≡ 0
      → Leaves W everywhere (symm K side uplo alpha a b beta c).slab c
      (λ i j. combined Z zbeta (zc i j) zalpha (on_side Z side (order_of side c.view) (symmetric Z uplo za) zb i j))

  -- the same, A Hermitian
  abbrev pub HemmExact : Type 0
  HemmExact =
      (side : Side) (uplo : UpLo) (alpha : K.Elem) (a b : Lent K) (beta : K.Elem) (c : Lent K)
      (zalpha : Z.Elem) (za zb : Matrix Z) (zbeta : Z.Elem) (zc : Matrix Z)
      → Scalar W alpha zalpha → Shows W (in_triangle uplo) a za → Shows W everywhere b zb → Scalar W beta zbeta → (Z.is_zero zbeta ≡ false → Shows W everywhere c zc)
      → (hemm K side uplo alpha a b beta c).answer ≡ 0
      → Leaves W everywhere (hemm K side uplo alpha a b beta c).slab c
      (λ i j. combined Z zbeta (zc i j) zalpha (on_side Z side (order_of side c.view) (hermitian Z uplo za) zb i j))

  -- C ← alpha A Aᵀ + beta C (NoTrans) or alpha Aᵀ A + beta C (Trans; ConjTrans is taken as Trans), the named triangle of C
  abbrev pub SyrkExact : Type 0
  SyrkExact =
      (uplo : UpLo) (trans : Trans) (alpha : K.Elem) (a : Lent K) (beta : K.Elem) (c : Lent K)
      (zalpha : Z.Elem) (za : Matrix Z) (zbeta : Z.Elem) (zc : Matrix Z)
      → Scalar W alpha zalpha → Shows W everywhere a za → Scalar W beta zbeta → (Z.is_zero zbeta ≡ false → Shows W (in_triangle uplo) c zc)
      → (syrk K uplo trans alpha a beta c).answer ≡ 0
      → Leaves W (in_triangle uplo) (syrk K uplo trans alpha a beta c).slab c
      (λ i j. combined Z zbeta (zc i j) zalpha (dot Z (op_cols trans a.view) (op Z (syrk_left trans) za) (op Z (syrk_right trans) za) i j))

  -- C ← alpha A Aᴴ + beta C (NoTrans) or alpha Aᴴ A + beta C (ConjTrans; Trans is taken as ConjTrans), alpha and beta real, the named triangle of C
  abbrev pub HerkExact : Type 0
  HerkExact =
      (uplo : UpLo) (trans : Trans) (alpha : K.Factor) (a : Lent K) (beta : K.Factor) (c : Lent K)
      (zalpha : Z.Factor) (za : Matrix Z) (zbeta : Z.Factor) (zc : Matrix Z)
      → RealScalar W alpha zalpha → Shows W everywhere a za → RealScalar W beta zbeta → (Z.is_zero_factor zbeta ≡ false → Shows W (in_triangle uplo) c zc)
      → (herk K uplo trans alpha a beta c).answer ≡ 0
      → Leaves W (in_triangle uplo) (herk K uplo trans alpha a beta c).slab c
      (λ i j. combined_real Z zbeta (zc i j) zalpha (dot Z (op_cols trans a.view) (op Z (herk_left trans) za) (op Z (herk_right trans) za) i j))

  -- all seven
  pub record ProductsExact : Type 0 where
    pub gemv : GemvExact
    pub hemv : HemvExact
    pub gemm : GemmExact
    pub symm : SymmExact
    pub hemm : HemmExact
    pub syrk : SyrkExact
    pub herk : HerkExact
