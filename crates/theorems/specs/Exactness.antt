-- Whole numbers among a kind's numbers, and document 01's exact range: the words of the exactness theorems.
use Rattle.std.specs.Prelude.{ℕ, ◌≤◌, ◌<◌, max, true, List, ◌≡◌, nat_abs}
use Rattle.number.specs.Kind.{Kind, Same, SameFactor, real64, complex}
use Rattle.number.specs.Integers.{integers, gaussian, float_of_integer, complex_of_gaussian}
use Rattle.view.specs.Refusals.{vec_length}
use Rattle.view.specs.Vector.{column_of}
use Rattle.slabs.specs.Elem.{Lent, lent, elem}
use Rattle.slabs.specs.Update.{Mask, everywhere}
use Rattle.blas.specs.Matrix.{Matrix, matrix, vector, sum}
use Rattle.blas.specs.Elements.{Keeps}

-- ---- the range (document 01, "Exact range for demand 2")

-- the largest magnitude of a part of an element, and of a part of a scalar
abbrev pub largest_part : ℕ
largest_part = 100000

abbrev pub largest_scalar_part : ℕ
largest_scalar_part = 100

-- ---- whole numbers

-- A kind K beside the whole numbers Z: which number of K, and which real factor, a whole number is, and the magnitude of its largest part.
pub record Wholes (K Z : Kind) : Type 0 where
  pub number : Z.Elem → K.Elem
  pub factor : Z.Factor → K.Factor
  pub magnitude : Z.Elem → ℕ
  pub factor_magnitude : Z.Factor → ℕ

-- f64 and the integers
abbrev pub real_wholes : Wholes real64 integers
real_wholes = record { number = float_of_integer; factor = float_of_integer; magnitude = nat_abs; factor_magnitude = nat_abs }

-- complex and the Gaussian integers
abbrev pub complex_wholes : Wholes complex gaussian
complex_wholes =
    record {
      number = complex_of_gaussian;
      factor = float_of_integer;
      magnitude = λ z. max (nat_abs z.re) (nat_abs z.im);
      factor_magnitude = nat_abs;
    }

module _ {K Z : Kind} (W : Wholes K Z) where
  -- x equals z as a number, and no part of z is larger than m
  pub record Whole (m : ℕ) (x : K.Elem) (z : Z.Elem) : Type 0 where
    pub same : Same K x (W.number z)
    pub small : W.magnitude z ≤ m

  pub record WholeFactor (m : ℕ) (v : K.Factor) (z : Z.Factor) : Type 0 where
    pub same : SameFactor K v (W.factor z)
    pub small : W.factor_magnitude z ≤ m

  -- a scalar of the range, as a number of the kind and as a real factor
  abbrev pub Scalar : K.Elem → Z.Elem → Type 0
  Scalar = Whole largest_scalar_part

  abbrev pub RealScalar : K.Factor → Z.Factor → Type 0
  RealScalar = WholeFactor largest_scalar_part

  -- each shown element of a that is named is a number of the range, z's
  pub record Shows (named : Mask) (a : Lent K) (z : Matrix Z) : Type 0 where
    pub shown : (i j : ℕ) → i < a.view.rows → j < a.view.cols → named i j ≡ true → Whole largest_part (matrix K a i j) (z i j)

  -- the same for all elements of a vector
  pub record ShowsVector (x : Lent K) (z : ℕ → Z.Elem) : Type 0 where
    pub shown : (i : ℕ) → i < vec_length x.view → Whole largest_part (vector K x i 0) (z i)

  -- A target after a call: each shown element that is written equals z's as a number, each other one, and every other number of the slab, is as lent.
  pub record Leaves (written : Mask) (after : List K.Cell) (target : Lent K) (z : Matrix Z) : Type 0 where
    pub left : (i j : ℕ) → i < target.view.rows → j < target.view.cols → written i j ≡ true → Same K (elem K after target.view i j) (W.number (z i j))
    pub kept : Keeps K target.view written target.slab after

  -- the same of a vector, which is one column and is written whole
  abbrev pub LeavesVector : List K.Cell → Lent K → (ℕ → Z.Elem) → Type 0
  LeavesVector after x z = Leaves everywhere after (lent K x.slab (column_of x.view)) (λ i j. z i)

-- ---- formulas over whole numbers

-- beta c + alpha p
abbrev pub combined : (Z : Kind) → Z.Elem → Z.Elem → Z.Elem → Z.Elem → Z.Elem
combined Z beta c alpha p = Z.add (Z.mul beta c) (Z.mul alpha p)

-- the same with real beta and alpha
abbrev pub combined_real : (Z : Kind) → Z.Factor → Z.Elem → Z.Factor → Z.Elem → Z.Elem
combined_real Z beta c alpha p = Z.add (Z.scale_real beta c) (Z.scale_real alpha p)

-- element i of the product of a matrix and a vector of n elements
abbrev pub times_vector : (Z : Kind) → ℕ → Matrix Z → (ℕ → Z.Elem) → ℕ → Z.Elem
times_vector Z n a x i = sum Z n (λ p. Z.mul (a i p) (x p))
