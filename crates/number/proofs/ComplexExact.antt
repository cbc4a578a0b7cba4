-- Exactness of complex numbers on Gaussian integers, part by part from that of the real kind on integers.
-- The four products of two numbers' parts sum up to the product of their sizes, so by that every part of a product is exact.
use Prim.Native.Nat.{ℕ, ◌+◌, ◌*◌, ◌≤◌}
use mathlib.Core.Bool.{◌&&◌}
use mathlib.Core.Path.{◌≡◌, ap, subst}
use native.Mathlib.Nat.{zero-mul}
use native.Mathlib.Omega.{arith}
use lib.Ieee.{Float, neg}
use lib.IntN.{ℤ, pos, neg_ℤ, ◌*ℤ◌, zero-*ℤ, +ℤ_idl, +ℤ_idr, neg_ℤ-neg_ℤ}
use Rattle.number.specs.Kind.{Same, SameFactor, real64, complex, zero_float}
use Rattle.number.specs.Integers.{Gaussian, integers, gaussian}
use Rattle.number.specs.Laws.{Laws, Exact}
use Rattle.number.specs.declared.Complex.{Complex}
use Rattle.number.proofs.Negation.{neg-cong}
use Rattle.number.proofs.Parts.{same, same-re, same-im}

module _ (E : Exact real64 integers) where
  open E use {bound, add-exact, sub-exact, mul-exact}

  abbrev pub whole : Gaussian → Complex
  whole z = record { re = E.of_whole z.re; im = E.of_whole z.im }

  abbrev pub size : Gaussian → ℕ
  size z = E.size z.re + E.size z.im

  pub sum-exact : {x y : Complex} {a b : Gaussian} → Same complex x (whole a) → Same complex y (whole b) → size a + size b ≤ bound
      → Same complex (complex.add x y) (whole (gaussian.add a b))
  sum-exact p q h = same (add-exact (same-re p) (same-re q) (omega arith)) (add-exact (same-im p) (same-im q) (omega arith))

  pub difference-exact : {x y : Complex} {a b : Gaussian} → Same complex x (whole a) → Same complex y (whole b) → size a + size b ≤ bound
      → Same complex (complex.sub x y) (whole (gaussian.sub a b))
  difference-exact p q h = same (sub-exact (same-re p) (same-re q) (omega arith)) (sub-exact (same-im p) (same-im q) (omega arith))

  pub product-exact : {x y : Complex} {a b : Gaussian} → Same complex x (whole a) → Same complex y (whole b) → size a * size b ≤ bound
      → Same complex (complex.mul x y) (whole (gaussian.mul a b))
  product-exact {x} {y} {a} {b} p q h =
      same
      (sub-exact (mul-exact (same-re p) (same-re q) (omega arith)) (mul-exact (same-im p) (same-im q) (omega arith))
      (omega (arith, E.size-mul a.re b.re, E.size-mul a.im b.im)))
      (add-exact (mul-exact (same-re p) (same-im q) (omega arith)) (mul-exact (same-im p) (same-re q) (omega arith))
      (omega (arith, E.size-mul a.re b.im, E.size-mul a.im b.re)))

  -- ---- a real factor: (v, +0) times the number, where the products by +0 are zero

  zero-times : {x : Float} {a : ℤ} → Same real64 x (E.of_whole a) → Same real64 (real64.mul zero_float x) (E.of_whole (pos 0))
  zero-times {x} {a} h =
      subst (λ (z : ℤ). Same real64 (real64.mul zero_float x) (E.of_whole z)) (zero-*ℤ a)
      (mul-exact E.zero-exact h (omega (arith, ap (λ (n : ℕ). n * E.size a) E.size-zero, zero-mul (E.size a))))

  module _ {v x y : Float} {c a b : ℤ} (r : SameFactor complex v (E.of_whole_factor c)) (p : Same real64 x (E.of_whole a)) (q : Same real64 y (E.of_whole b))
      (h : E.size_factor c * E.size a ≤ bound) where
    scaled : Same real64 (real64.mul v x) (E.of_whole (c *ℤ a))
    scaled = E.scale-exact (record { same = r.same }) p h

    fits : E.size (c *ℤ a) + E.size (pos 0) ≤ bound
    fits = omega (arith, E.size_scale c a, E.size-zero)

    scaled-less-zero : Same real64 (real64.sub (real64.mul v x) (real64.mul zero_float y)) (E.of_whole (c *ℤ a))
    scaled-less-zero =
        subst (λ (z : ℤ). Same real64 (real64.sub (real64.mul v x) (real64.mul zero_float y)) (E.of_whole z)) (+ℤ_idr (c *ℤ a))
        (sub-exact scaled (zero-times q) fits)

    scaled-and-zero : Same real64 (real64.add (real64.mul v x) (real64.mul zero_float y)) (E.of_whole (c *ℤ a))
    scaled-and-zero =
        subst (λ (z : ℤ). Same real64 (real64.add (real64.mul v x) (real64.mul zero_float y)) (E.of_whole z)) (+ℤ_idr (c *ℤ a))
        (add-exact scaled (zero-times q) fits)

  pub scaled_exact : {v : Float} {x : Complex} {c : ℤ} {a : Gaussian} → SameFactor complex v (E.of_whole_factor c) → Same complex x (whole a)
      → E.size_factor c * size a ≤ bound → Same complex (complex.scale_real v x) (whole (gaussian.scale_real c a))
  scaled_exact r p h = same (scaled-less-zero r (same-re p) (same-im p) (omega arith)) (scaled-and-zero r (same-im p) (same-re p) (omega arith))

  -- ---- sizes

  pub size-product : (a b : Gaussian) → size (gaussian.mul a b) ≤ size a * size b
  size-product a b =
      omega (
        arith,
        E.size-sub (a.re *ℤ b.re) (a.im *ℤ b.im),
        E.size-add (a.re *ℤ b.im) (a.im *ℤ b.re),
        E.size-mul a.re b.re,
        E.size-mul a.im b.im,
        E.size-mul a.re b.im,
        E.size-mul a.im b.re,
      )

  size-neg-le : (a : ℤ) → E.size (neg_ℤ a) ≤ E.size a
  size-neg-le a = omega (arith, E.size-sub (pos 0) a, ap E.size (+ℤ_idl (neg_ℤ a)), E.size-zero)

  size-neg : (a : ℤ) → E.size (neg_ℤ a) ≡ E.size a
  size-neg a = omega (arith, size-neg-le a, size-neg-le (neg_ℤ a), ap E.size (neg_ℤ-neg_ℤ a))

  pub size-origin : size gaussian.zero ≡ 0
  size-origin = omega (arith, E.size-zero)

  pub size-sum : (a b : Gaussian) → size (gaussian.add a b) ≤ size a + size b
  size-sum a b = omega (arith, E.size-add a.re b.re, E.size-add a.im b.im)

  pub size-difference : (a b : Gaussian) → size (gaussian.sub a b) ≤ size a + size b
  size-difference a b = omega (arith, E.size-sub a.re b.re, E.size-sub a.im b.im)

  pub size-conjugate : (a : Gaussian) → size (gaussian.conj a) ≡ size a
  size-conjugate a = ap (λ (n : ℕ). E.size a.re + n) (size-neg a.im)

  pub size-scaled : (c : ℤ) (a : Gaussian) → size (gaussian.scale_real c a) ≤ E.size_factor c * size a
  size-scaled c a = omega (arith, E.size_scale c a.re, E.size_scale c a.im)

-- ---- the record, given that the negation of a whole number's float is the negated number's

abbrev pub complex-exact : (R : Laws real64) (E : Exact real64 integers) → ((a : ℤ) → Same real64 (neg (E.of_whole a)) (E.of_whole (neg_ℤ a)))
    → Exact complex gaussian
complex-exact R E neg-exact =
    record {
      of_whole = whole E;
      of_whole_factor = E.of_whole_factor;
      size = size E;
      size_factor = E.size_factor;
      bound = E.bound;
      zero-exact = same E.zero-exact E.zero-exact;
      one-exact = same E.one-exact E.zero-exact;
      add-exact = sum-exact E;
      sub-exact = difference-exact E;
      mul-exact = product-exact E;
      conj-exact = λ {x} {a} p. same (same-re p) (R.same-trans (neg-cong (same-im p)) (neg-exact a.im));
      scale-exact = scaled_exact E;
      is_zero-exact = λ p i. E.is_zero-exact (same-re p) i && E.is_zero-exact (same-im p) i;
      is_one-exact = λ p i. E.is_one-exact (same-re p) i && E.is_zero-exact (same-im p) i;
      is_zero_factor-exact = λ p. E.is_zero_factor-exact (record { same = p.same });
      is_one_factor-exact = λ p. E.is_one_factor-exact (record { same = p.same });
      size-zero = size-origin E;
      size-add = size-sum E;
      size-sub = size-difference E;
      size-mul = size-product E;
      size-conj = size-conjugate E;
      size_scale = size-scaled E;
    }
