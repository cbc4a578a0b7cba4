-- What a number kind is, and the three kinds of document 01: `real64`, `real32` and `complex`.
use Rattle.std.specs.Prelude.{ℕ, ◌+◌, ◌*◌, ◌/◌, Bool, false, ◌&&◌, ◌||◌, List, T, Float, pos, length, get_or, set}
use Rattle.std.specs.Float.{Format, binary32, binary64, nan, inf, fin}
use Rattle.std.specs.Float.Ieee.{fits, is_nan, add, sub, mul, div, neg, eq}
use Rattle.number.specs.declared.Complex.{Complex}

-- The numbers of a kind over three types: a number of the slab, an element, and a real factor (document 01: "real alpha", "real beta").
pub record Numbers (Cell Elem Factor : Type 0) : Type 0 where
  -- the element operations
  pub zero : Elem
  pub one : Elem
  pub add : Elem → Elem → Elem
  pub sub : Elem → Elem → Elem
  pub mul : Elem → Elem → Elem
  pub div : Elem → Elem → Elem
  pub conj : Elem → Elem
  -- zero and one go by value, so −0 is zero
  pub is_zero : Elem → Bool
  pub is_one : Elem → Bool
  -- a real factor as an element, the product of a factor and an element, and the factor's own tests
  pub from_real : Factor → Elem
  pub scale_real : Factor → Elem → Elem
  pub is_zero_factor : Factor → Bool
  pub is_one_factor : Factor → Bool
  -- the slab: cells to an element, bytes to a cell, how many whole elements it has, element k, and the slab with element k replaced
  pub width : ℕ
  pub bytes : ℕ
  pub count : List Cell → ℕ
  pub at : List Cell → ℕ → Elem
  pub put : List Cell → ℕ → Elem → List Cell
  -- the format holds the number
  pub holds_cell : Cell → Bool
  pub holds : Elem → Bool
  -- equal as numbers (document 01): +0 equals −0, and every NaN every NaN
  pub same_cell : Cell → Cell → Bool
  pub same : Elem → Elem → Bool
  pub same_factor : Factor → Factor → Bool
  -- neither infinite nor NaN
  pub finite : Elem → Bool

-- A kind of number: its elements with their operations, and how they lie in a slab.
pub record Kind : Type 1 where
  -- a number of the slab, an element, and a real factor (document 01: "real alpha", "real beta")
  pub Cell : Type 0
  pub Elem : Type 0
  pub Factor : Type 0
  -- the element operations
  pub zero : Elem
  pub one : Elem
  pub add : Elem → Elem → Elem
  pub sub : Elem → Elem → Elem
  pub mul : Elem → Elem → Elem
  pub div : Elem → Elem → Elem
  pub conj : Elem → Elem
  -- zero and one go by value, so −0 is zero
  pub is_zero : Elem → Bool
  pub is_one : Elem → Bool
  -- a real factor as an element, the product of a factor and an element, and the factor's own tests
  pub from_real : Factor → Elem
  pub scale_real : Factor → Elem → Elem
  pub is_zero_factor : Factor → Bool
  pub is_one_factor : Factor → Bool
  -- the slab: cells to an element, bytes to a cell, how many whole elements it has, element k, and the slab with element k replaced
  pub width : ℕ
  pub bytes : ℕ
  pub count : List Cell → ℕ
  pub at : List Cell → ℕ → Elem
  pub put : List Cell → ℕ → Elem → List Cell
  -- the format holds the number
  pub holds_cell : Cell → Bool
  pub holds : Elem → Bool
  -- equal as numbers (document 01): +0 equals −0, and every NaN every NaN
  pub same_cell : Cell → Cell → Bool
  pub same : Elem → Elem → Bool
  pub same_factor : Factor → Factor → Bool
  -- neither infinite nor NaN
  pub finite : Elem → Bool

-- the kind of such numbers
abbrev pub kind : {C E F : Type 0} → Numbers C E F → Kind
kind {C = C} {E = E} {F = F} n =
    record {
      Cell = C;
      Elem = E;
      Factor = F;
      zero = n.zero;
      one = n.one;
      add = n.add;
      sub = n.sub;
      mul = n.mul;
      div = n.div;
      conj = n.conj;
      is_zero = n.is_zero;
      is_one = n.is_one;
      from_real = n.from_real;
      scale_real = n.scale_real;
      is_zero_factor = n.is_zero_factor;
      is_one_factor = n.is_one_factor;
      width = n.width;
      bytes = n.bytes;
      count = n.count;
      at = n.at;
      put = n.put;
      holds_cell = n.holds_cell;
      holds = n.holds;
      same_cell = n.same_cell;
      same = n.same;
      same_factor = n.same_factor;
      finite = n.finite;
    }

-- ---- the tests as statements

pub record Same (K : Kind) (x y : K.Elem) : Type 0 where
  pub same : T (K.same x y)

pub record SameFactor (K : Kind) (x y : K.Factor) : Type 0 where
  pub same : T (K.same_factor x y)

pub record Holds (K : Kind) (x : K.Elem) : Type 0 where
  pub holds : T (K.holds x)

pub record Finite (K : Kind) (x : K.Elem) : Type 0 where
  pub finite : T (K.finite x)

-- ---- floats (IEEE 754)

-- +0, which is ZERO, and 1, which is ONE
abbrev pub zero_float : Float
zero_float = fin false 0 (pos 0)

abbrev pub one_float : Float
one_float = fin false 1 (pos 0)

abbrev pub same_float : Float → Float → Bool
same_float x y = eq x y || (is_nan x && is_nan y)

unfoldable pub finite_float : Float → Bool
finite_float nan = false
finite_float (inf s) = false
finite_float (fin s m e) = Bool.true

-- bytes to a number of a format
abbrev pub bytes_of : Format → ℕ
bytes_of binary32 = 4
bytes_of binary64 = 8

-- ---- the real kinds: IEEE 754's operations, rounded once; the conjugate of a real number is itself

abbrev pub real_numbers : Format → Numbers Float Float Float
real_numbers f =
    record {
      zero = zero_float;
      one = one_float;
      add = add f;
      sub = sub f;
      mul = mul f;
      div = div f;
      conj = λ x. x;
      is_zero = λ x. eq x zero_float;
      is_one = λ x. eq x one_float;
      from_real = λ v. v;
      scale_real = mul f;
      is_zero_factor = λ v. eq v zero_float;
      is_one_factor = λ v. eq v one_float;
      width = 1;
      bytes = bytes_of f;
      count = λ s. length s;
      at = λ s k. get_or s k nan;
      put = λ s k x. set s k x;
      holds_cell = fits f;
      holds = fits f;
      same_cell = same_float;
      same = same_float;
      same_factor = same_float;
      finite = finite_float;
    }

abbrev pub real : Format → Kind
real f = kind (real_numbers f)

abbrev pub real64 : Kind
real64 = real binary64

abbrev pub real32 : Kind
real32 = real binary32

-- ---- complex numbers (document 01, "Numbers and views"), over f64

-- (v, +0)
abbrev pub complex_of_real : Float → Complex
complex_of_real v = record { re = v; im = zero_float }

abbrev pub add_complex : Complex → Complex → Complex
add_complex a b = record { re = add binary64 a.re b.re; im = add binary64 a.im b.im }

abbrev pub sub_complex : Complex → Complex → Complex
sub_complex a b = record { re = sub binary64 a.re b.re; im = sub binary64 a.im b.im }

-- (a.re·b.re − a.im·b.im, a.re·b.im + a.im·b.re)
abbrev pub mul_complex : Complex → Complex → Complex
mul_complex a b =
    record {
      re = sub binary64 (mul binary64 a.re b.re) (mul binary64 a.im b.im);
      im = add binary64 (mul binary64 a.re b.im) (mul binary64 a.im b.re);
    }

-- with s = d.re·d.re + d.im·d.im: ((n.re·d.re + n.im·d.im)/s, (n.im·d.re − n.re·d.im)/s)
abbrev pub squares_complex : Complex → Float
squares_complex d = add binary64 (mul binary64 d.re d.re) (mul binary64 d.im d.im)

abbrev pub div_complex : Complex → Complex → Complex
div_complex n d =
    record {
      re = div binary64 (add binary64 (mul binary64 n.re d.re) (mul binary64 n.im d.im)) (squares_complex d);
      im = div binary64 (sub binary64 (mul binary64 n.im d.re) (mul binary64 n.re d.im)) (squares_complex d);
    }

-- the imaginary part negated
abbrev pub conj_complex : Complex → Complex
conj_complex a = record { re = a.re; im = neg a.im }

-- Element k lies on cells 2k and 2k + 1.
abbrev pub complex_numbers : Numbers Float Complex Float
complex_numbers =
    record {
      zero = record { re = zero_float; im = zero_float };
      one = record { re = one_float; im = zero_float };
      add = add_complex;
      sub = sub_complex;
      mul = mul_complex;
      div = div_complex;
      conj = conj_complex;
      is_zero = λ a. eq a.re zero_float && eq a.im zero_float;
      is_one = λ a. eq a.re one_float && eq a.im zero_float;
      from_real = complex_of_real;
      scale_real = λ v a. mul_complex (complex_of_real v) a;
      is_zero_factor = λ v. eq v zero_float;
      is_one_factor = λ v. eq v one_float;
      width = 2;
      bytes = bytes_of binary64;
      count = λ s. length s / 2;
      at = λ s k. record { re = get_or s (2 * k) nan; im = get_or s (2 * k + 1) nan };
      put = λ s k a. set (set s (2 * k) a.re) (2 * k + 1) a.im;
      holds_cell = fits binary64;
      holds = λ a. fits binary64 a.re && fits binary64 a.im;
      same_cell = same_float;
      same = λ a b. same_float a.re b.re && same_float a.im b.im;
      same_factor = same_float;
      finite = λ a. finite_float a.re && finite_float a.im;
    }

abbrev pub complex : Kind
complex = kind complex_numbers
