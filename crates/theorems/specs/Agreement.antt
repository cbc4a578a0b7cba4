-- What a product can see of its coefficient matrix A (document 01, demand 3). Two coefficient matrices of one shape have the same
-- outcome in every call exactly when each named element of the one equals, as a number, that of the other.
use Rattle.std.specs.Prelude.{ℕ, ◌*◌, ◌^◌, ◌<◌, true, false, ◌≡◌, T, length}
use Rattle.std.specs.Int.Signed.{mag}
use Rattle.number.specs.Kind.{Kind, Same, Holds, Finite}
use Rattle.number.specs.Laws.{Held, SameSlab}
use Rattle.view.specs.declared.View.{View}
use Rattle.view.specs.declared.Trans.{Trans}
use Rattle.view.specs.declared.UpLo.{UpLo}
use Rattle.view.specs.declared.Side.{Side}
use Rattle.view.specs.Refusals.{too_large, out_of_bounds}
use Rattle.slabs.specs.Elem.{Lent}
use Rattle.slabs.specs.Update.{Mask}
use Rattle.blas.specs.Matrix.{matrix}
use Rattle.view.specs.Triangle.{in_triangle}
use Rattle.blas.specs.Outcome.{Outcome}
use Rattle.blas.specs.Gemv.{gemv}
use Rattle.blas.specs.Gemm.{gemm}
use Rattle.blas.specs.Hemv.{hemv}
use Rattle.blas.specs.Symm.{symm}
use Rattle.blas.specs.Hemm.{hemm}

-- ---- outcomes

-- the same answer, and equal numbers in every place of the target's slab, also where the target shows none
pub record SameOutcome (K : Kind) (o o' : Outcome K) : Type 0 where
  pub answer : o.answer ≡ o'.answer
  pub slab : SameSlab K o.slab o'.slab

-- equal to the routine: no call, refused or not, has another outcome with a' than with a; `Call` is what it is given besides A
pub record Alike (K : Kind) (Call : Type 0) (run : Lent K → Call → Outcome K) (a a' : Lent K) : Type 0 where
  pub outcome : (o : Call) → SameOutcome K (run a o) (run a' o)

-- ---- coefficient matrices

-- which elements a routine names: all of A, or the named triangle with its diagonal
abbrev pub whole_matrix : Mask
whole_matrix i j = true

abbrev pub triangle : UpLo → Mask
triangle uplo i j = in_triangle uplo i j

-- (i, j) is a named element of a matrix seen through v
pub record Named (names : Mask) (v : View) (i j : ℕ) : Type 0 where
  pub row : i < v.rows
  pub col : j < v.cols
  pub named : names i j ≡ true

-- the form that the papers want of A: none, or square
abbrev pub General : View → Type 0
General v = T true

abbrev pub Square : View → Type 0
Square v = v.rows ≡ v.cols

-- the routine accepts A: it has the form wanted, and draws neither refusal 1 nor refusal 2
pub record AcceptedMatrix (K : Kind) (Form : View → Type 0) (a : Lent K) : Type 0 where
  pub form : Form a.view
  pub not-too-large : too_large a.view ≡ false
  pub not-out-of-bounds : out_of_bounds a.view (K.count a.slab) ≡ false

-- a matrix that demand 3 speaks of: accepted, in a slab of numbers that the format holds, its named elements finite
pub record Coefficient (K : Kind) (Form : View → Type 0) (names : Mask) (a : Lent K) : Type 0 where
  pub accepted : AcceptedMatrix K Form a
  pub numbers : Held K a.slab
  pub finite : (i j : ℕ) → Named names a.view i j → Finite K (matrix K a i j)

pub record SameShape (v v' : View) : Type 0 where
  pub rows : v.rows ≡ v'.rows
  pub cols : v.cols ≡ v'.cols

-- every named element of a equals, as a number, that of a'
pub record Agree (K : Kind) (names : Mask) (a a' : Lent K) : Type 0 where
  pub same : (i j : ℕ) → Named names a.view i j → Same K (matrix K a i j) (matrix K a' i j)

-- ---- the theorem, for a routine with its flags

-- a and a' have one shape, and each its own slab, start and strides
abbrev pub Sees : (K : Kind) (Call : Type 0) → (Lent K → Call → Outcome K) → (View → Type 0) → Mask → Type 0
Sees K Call run Form names =
    (a a' : Lent K) → SameShape a.view a'.view → Coefficient K Form names a → Coefficient K Form names a'
    → (Alike K Call run a a' → Agree K names a a') × (Agree K names a a' → Alike K Call run a a')

-- ---- products

-- a view's five numbers have 64 bits, and only the strides are signed
pub record Words (v : View) : Type 0 where
  pub start : v.start < 2 ^ 64
  pub rows : v.rows < 2 ^ 64
  pub cols : v.cols < 2 ^ 64
  pub rs : mag v.rs < 2 ^ 63
  pub cs : mag v.cs < 2 ^ 63

-- a view with its whole slab: numbers that the format holds, of no more bytes than a slice can have
pub record Lendable (K : Kind) (b : Lent K) : Type 0 where
  pub numbers : Held K b.slab
  pub size : K.bytes * length b.slab < 2 ^ 63
  pub words : Words b.view

-- what a product is given besides A: the scalars, the right-hand side (x or B) and the target (y or C), as they are before the call
pub record Others (K : Kind) : Type 0 where
  pub alpha : K.Elem
  pub beta : K.Elem
  pub rhs : Lent K
  pub target : Lent K
  pub alpha-holds : Holds K alpha
  pub beta-holds : Holds K beta
  pub rhs-lendable : Lendable K rhs
  pub target-lendable : Lendable K target

-- a product with its flags
abbrev pub Product : Kind → Type 0
Product K = K.Elem → Lent K → Lent K → K.Elem → Lent K → Outcome K

abbrev pub run : (K : Kind) → Product K → Lent K → Others K → Outcome K
run K f a o = f o.alpha a o.rhs o.beta o.target

-- each product, at every setting of its flags
pub record ProductsSee (K : Kind) : Type 0 where
  pub gemv-sees : (trans : Trans) → Sees K (Others K) (run K (gemv K trans)) General whole_matrix
  pub gemm-sees : (ta tb : Trans) → Sees K (Others K) (run K (gemm K ta tb)) General whole_matrix
  pub hemv-sees : (uplo : UpLo) → Sees K (Others K) (run K (hemv K uplo)) Square (triangle uplo)
  pub symm-sees : (side : Side) (uplo : UpLo) → Sees K (Others K) (run K (symm K side uplo)) Square (triangle uplo)
  pub hemm-sees : (side : Side) (uplo : UpLo) → Sees K (Others K) (run K (hemm K side uplo)) Square (triangle uplo)
