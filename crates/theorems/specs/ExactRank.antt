-- The rank updates her, her2, syr2k and her2k on whole numbers of document 01's range. Of a call that answers 0: each element of the named
-- triangle is, as a number, the papers' formula over whole numbers. Only what the routine reads has to be whole: of the target the named
-- triangle, and in syr2k and her2k that only unless beta is zero.
use Rattle.std.specs.Prelude.{ℕ, false, ◌≡◌}
use Rattle.number.specs.Kind.{Kind}
use Rattle.view.specs.declared.Trans.{Trans}
use Rattle.view.specs.declared.UpLo.{UpLo}
use Rattle.view.specs.Checks.{op_cols}
use Rattle.view.specs.Triangle.{in_triangle}
use Rattle.slabs.specs.Elem.{Lent}
use Rattle.slabs.specs.Update.{everywhere}
use Rattle.blas.specs.Matrix.{Matrix, op, dot}
use Rattle.blas.specs.Syrk.{syrk_left, syrk_right}
use Rattle.blas.specs.Herk.{herk_left, herk_right}
use Rattle.blas.specs.Her.{her}
use Rattle.blas.specs.Her2.{her2}
use Rattle.blas.specs.Syr2k.{syr2k}
use Rattle.blas.specs.Her2k.{her2k}
use Rattle.theorems.specs.Exactness.{Wholes, Scalar, RealScalar, Shows, ShowsVector, Leaves}

-- x yᴴ
abbrev pub outer : (Z : Kind) → (ℕ → Z.Elem) → (ℕ → Z.Elem) → Matrix Z
outer Z x y i j = Z.mul (x i) (Z.conj (y j))

-- alpha p + alpha' q
abbrev pub both_terms : (Z : Kind) → Z.Elem → Z.Elem → Z.Elem → Z.Elem → Z.Elem
both_terms Z alpha p alpha' q = Z.add (Z.mul alpha p) (Z.mul alpha' q)

-- A Bᵀ of n products an element (NoTrans), or Aᵀ B (Trans; ConjTrans is taken as Trans)
abbrev pub by_transpose : (Z : Kind) → Trans → ℕ → Matrix Z → Matrix Z → Matrix Z
by_transpose Z trans n a b = dot Z n (op Z (syrk_left trans) a) (op Z (syrk_right trans) b)

-- A Bᴴ (NoTrans), or Aᴴ B (ConjTrans; Trans is taken as ConjTrans)
abbrev pub by_conjugate : (Z : Kind) → Trans → ℕ → Matrix Z → Matrix Z → Matrix Z
by_conjugate Z trans n a b = dot Z n (op Z (herk_left trans) a) (op Z (herk_right trans) b)

module _ {K Z : Kind} (W : Wholes K Z) where
  -- A ← alpha x xᴴ + A, alpha real
  abbrev pub HerExact : Type 0
  HerExact =
      (uplo : UpLo) (alpha : K.Factor) (x a : Lent K) (zalpha : Z.Factor) (zx : ℕ → Z.Elem) (za : Matrix Z)
      → RealScalar W alpha zalpha → ShowsVector W x zx → Shows W (in_triangle uplo) a za
      → (her K uplo alpha x a).answer ≡ 0
      → Leaves W (in_triangle uplo) (her K uplo alpha x a).slab a
      (λ i j. Z.add (za i j) (Z.scale_real zalpha (outer Z zx zx i j)))

  -- A ← alpha x yᴴ + conj(alpha) y xᴴ + A
  abbrev pub Her2Exact : Type 0
  Her2Exact =
      (uplo : UpLo) (alpha : K.Elem) (x y a : Lent K) (zalpha : Z.Elem) (zx zy : ℕ → Z.Elem) (za : Matrix Z)
      → Scalar W alpha zalpha → ShowsVector W x zx → ShowsVector W y zy → Shows W (in_triangle uplo) a za
      → (her2 K uplo alpha x y a).answer ≡ 0
      → Leaves W (in_triangle uplo) (her2 K uplo alpha x y a).slab a
      (λ i j. Z.add (za i j) (both_terms Z zalpha (outer Z zx zy i j) (Z.conj zalpha) (outer Z zy zx i j)))

  -- C ← alpha A Bᵀ + alpha B Aᵀ + beta C (NoTrans) or alpha Aᵀ B + alpha Bᵀ A + beta C (Trans)
  abbrev pub Syr2kExact : Type 0
  Syr2kExact =
      (uplo : UpLo) (trans : Trans) (alpha : K.Elem) (a b : Lent K) (beta : K.Elem) (c : Lent K)
      (zalpha : Z.Elem) (za zb : Matrix Z) (zbeta : Z.Elem) (zc : Matrix Z)
      → Scalar W alpha zalpha → Shows W everywhere a za → Shows W everywhere b zb → Scalar W beta zbeta
      → (Z.is_zero zbeta ≡ false → Shows W (in_triangle uplo) c zc)
      → (syr2k K uplo trans alpha a b beta c).answer ≡ 0
      → Leaves W (in_triangle uplo) (syr2k K uplo trans alpha a b beta c).slab c
      (λ i j. Z.add (Z.mul zbeta (zc i j))
      (both_terms Z zalpha (by_transpose Z trans (op_cols trans a.view) za zb i j) zalpha (by_transpose Z trans (op_cols trans a.view) zb za i j)))

  -- C ← alpha A Bᴴ + conj(alpha) B Aᴴ + beta C (NoTrans) or alpha Aᴴ B + conj(alpha) Bᴴ A + beta C (ConjTrans), beta real
  abbrev pub Her2kExact : Type 0
  Her2kExact =
      (uplo : UpLo) (trans : Trans) (alpha : K.Elem) (a b : Lent K) (beta : K.Factor) (c : Lent K)
      (zalpha : Z.Elem) (za zb : Matrix Z) (zbeta : Z.Factor) (zc : Matrix Z)
      → Scalar W alpha zalpha → Shows W everywhere a za → Shows W everywhere b zb → RealScalar W beta zbeta
      → (Z.is_zero_factor zbeta ≡ false → Shows W (in_triangle uplo) c zc)
      → (her2k K uplo trans alpha a b beta c).answer ≡ 0
      → Leaves W (in_triangle uplo) (her2k K uplo trans alpha a b beta c).slab c
      (λ i j. Z.add (Z.scale_real zbeta (zc i j))
      (both_terms Z zalpha (by_conjugate Z trans (op_cols trans a.view) za zb i j) (Z.conj zalpha) (by_conjugate Z trans (op_cols trans a.view) zb za i j)))

  -- all four
  pub record RankExact : Type 0 where
    pub her : HerExact
    pub her2 : Her2Exact
    pub syr2k : Syr2kExact
    pub her2k : Her2kExact
