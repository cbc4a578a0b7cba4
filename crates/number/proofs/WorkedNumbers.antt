-- Worked numbers, each proved by computing it from the definitions. The program worked_examples runs the same.
use Prim.Native.Nat.{ℕ}
use mathlib.Core.Bool.{true, false}
use mathlib.Core.Path.{◌≡◌, refl}
use lib.Ieee.{Float, binary32, binary64, nan, inf, fin, add, sub, mul, div, neg, eq, of_int, of_bits, to_bits}
use lib.IntN.{pos}
use Rattle.number.specs.Kind.{real64, real32, complex}
use Rattle.number.specs.Kind.{real_numbers, complex_numbers}
use Rattle.number.specs.Scaling.{beta_of, beta_real_of, real_multipliers, complex_multipliers}
use Rattle.number.specs.declared.Beta.{Beta}
use Rattle.number.specs.declared.Multiplier.{Multiplier}
use Rattle.number.specs.declared.Complex.{Complex}

-- ---- how the rows write numbers: a whole number, −0, f64 and f32 by their bits, and the complex number (x, y)

abbrev whole : ℕ → Float
whole n = of_int binary64 (pos n)

abbrev minus_zero : Float
minus_zero = fin true 0 (pos 0)

abbrev f64 : ℕ → Float
f64 = of_bits binary64

abbrev f32 : ℕ → Float
f32 = of_bits binary32

abbrev pair : Float → Float → Complex
pair x y = record { re = x; im = y }

-- ---- beta as each kind judges it

abbrev beta64 : Float → Beta Float
beta64 = beta_of (real_numbers binary64) (real_multipliers binary64)

abbrev beta32 : Float → Beta Float
beta32 = beta_of (real_numbers binary32) (real_multipliers binary32)

abbrev beta_complex : Complex → Beta Multiplier
beta_complex = beta_of complex_numbers complex_multipliers

abbrev beta_real : Float → Beta Multiplier
beta_real = beta_real_of complex_numbers complex_multipliers

-- ---- each operation rounds once

-- 0.1 + 0.2 in f64
pub tenths64 : to_bits binary64 (real64.add (f64 0x3fb9_9999_9999_999a) (f64 0x3fc9_9999_9999_999a)) ≡ 0x3fd3_3333_3333_3334
unfolding add of_bits to_bits
tenths64 = refl

-- is not the f64 nearest 0.3
pub tenths64-not-three : eq (real64.add (f64 0x3fb9_9999_9999_999a) (f64 0x3fc9_9999_9999_999a)) (f64 0x3fd3_3333_3333_3333) ≡ false
unfolding add of_bits eq
tenths64-not-three = refl

-- 0.1 + 0.2 in f32
pub tenths32 : to_bits binary32 (real32.add (f32 0x3dcc_cccd) (f32 0x3e4c_cccd)) ≡ 0x3e99_999a
unfolding add of_bits to_bits
tenths32 = refl

-- is the f32 nearest 0.3
pub tenths32-three : eq (real32.add (f32 0x3dcc_cccd) (f32 0x3e4c_cccd)) (f32 0x3e99_999a) ≡ true
unfolding add of_bits eq
tenths32-three = refl

-- (2^−1022 + 2^−1074) − 2^−1022, both normal, is the smallest f64: subnormal
pub difference64 : to_bits binary64 (real64.sub (f64 0x0010_0000_0000_0001) (f64 0x0010_0000_0000_0000)) ≡ 1
unfolding sub of_bits to_bits
difference64 = refl

-- and is not zero
pub difference64-not-zero : real64.is_zero (real64.sub (f64 0x0010_0000_0000_0001) (f64 0x0010_0000_0000_0000)) ≡ false
unfolding sub of_bits eq
difference64-not-zero = refl

-- the same in f32, at 2^−126 and 2^−149
pub difference32 : to_bits binary32 (real32.sub (f32 0x0080_0001) (f32 0x0080_0000)) ≡ 1
unfolding sub of_bits to_bits
difference32 = refl

pub difference32-not-zero : real32.is_zero (real32.sub (f32 0x0080_0001) (f32 0x0080_0000)) ≡ false
unfolding sub of_bits eq
difference32-not-zero = refl

-- ---- complex numbers

-- (1, 2)·(3, 5) is (3 − 10, 5 + 6)
pub product : complex.mul (pair (whole 1) (whole 2)) (pair (whole 3) (whole 5)) ≡ pair (neg (whole 7)) (whole 11)
unfolding sub mul of_int
product = refl

-- (−7, 11)/(3, 5), with s = 34, is (34/34, 68/34)
pub quotient : complex.div (pair (neg (whole 7)) (whole 11)) (pair (whole 3) (whole 5)) ≡ pair (whole 1) (whole 2)
unfolding sub mul div of_int
quotient = refl

-- (1, 2)/(3, 4), with s = 25, is the f64 nearest 11/25 and the f64 nearest 2/25
pub quotient-rounded : complex.div (pair (whole 1) (whole 2)) (pair (whole 3) (whole 4)) ≡ pair (f64 0x3fdc_28f5_c28f_5c29) (f64 0x3fb4_7ae1_47ae_147b)
unfolding sub mul div of_int of_bits
quotient-rounded = refl

-- the conjugate of (3, 5), and of (3, +0)
pub conjugate : complex.conj (pair (whole 3) (whole 5)) ≡ pair (whole 3) (neg (whole 5))
unfolding neg of_int
conjugate = refl

pub conjugate-of-zero : complex.conj (pair (whole 3) (whole 0)) ≡ pair (whole 3) minus_zero
unfolding neg of_int
conjugate-of-zero = refl

-- (1, ∞) times from_real(1) is (1·1 − ∞·0, 1·0 + ∞·1): its real part is NaN
pub infinite-times-real-one : complex.mul (pair (whole 1) (inf false)) (complex.from_real (whole 1)) ≡ pair nan (inf false)
unfolding sub mul of_int
infinite-times-real-one = refl

-- the real factor 1 gives the same
pub real-factor-one : complex.scale_real (whole 1) (pair (whole 1) (inf false)) ≡ pair nan (inf false)
unfolding sub mul of_int
real-factor-one = refl

-- ---- zero and one go by value

-- −0 is zero
pub minus-zero64 : real64.is_zero minus_zero ≡ true
unfolding eq
minus-zero64 = refl

pub minus-zero32 : real32.is_zero minus_zero ≡ true
unfolding eq
minus-zero32 = refl

pub minus-zero-complex : complex.is_zero (pair minus_zero minus_zero) ≡ true
unfolding eq
minus-zero-complex = refl

-- (0, 2) is not zero, though its real part is
pub imaginary-not-zero : complex.is_zero (pair (whole 0) (whole 2)) ≡ false
unfolding eq of_int
imaginary-not-zero = refl

-- beta −0 clears
pub beta-minus-zero64 : beta64 minus_zero ≡ Beta.Clear
unfolding eq
beta-minus-zero64 = refl

pub beta-minus-zero32 : beta32 minus_zero ≡ Beta.Clear
unfolding eq
beta-minus-zero32 = refl

pub beta-minus-zero-complex : beta_complex (pair minus_zero minus_zero) ≡ Beta.Clear
unfolding eq
beta-minus-zero-complex = refl

pub beta-minus-zero-real : beta_real minus_zero ≡ Beta.Clear
unfolding eq
beta-minus-zero-real = refl

-- beta (1, −0) keeps
pub beta-one-minus-zero : beta_complex (pair (whole 1) minus_zero) ≡ Beta.Keep
unfolding eq of_int
beta-one-minus-zero = refl

-- any other beta is a factor, and carries its float
pub beta-three : beta64 (whole 3) ≡ Beta.Factor (whole 3)
unfolding eq of_int
beta-three = refl
