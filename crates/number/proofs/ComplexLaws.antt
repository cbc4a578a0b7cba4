-- The laws of complex numbers, part by part from those of the real kind.
use mathlib.Core.Bool.{Bool, true, false, ◌&&◌}
use mathlib.Core.Path.{◌≡◌, refl}
use lib.Ieee.{Float}
use Rattle.number.specs.Kind.{Same, SameFactor, Holds, Finite, real64, complex, zero_float}
use Rattle.number.specs.Laws.{Laws, SlabLaws}
use Rattle.number.specs.declared.Complex.{Complex}
use Rattle.number.proofs.Negation.{neg-cong, neg_same, neg-holds, neg-finite, neg-zero}
use Rattle.number.proofs.Parts.{same, same-re, same-im, holds, holds-re, holds-im, finite, finite-re, finite-im}

-- ---- tests of both parts

and_left : (a b : Bool) → a && b ≡ true → a ≡ true
and_left true b h = refl
and_left false b h = h

and_right : (a b : Bool) → a && b ≡ true → b ≡ true
and_right true b h = h
and_right false true h = refl
and_right false false h = h

module _ (R : Laws real64) where
  open R use {same_refl, same-trans, add_cong, sub-cong, mul-cong, add-zero, zero-add, sub-zero, mul-zero, zero-mul}

  product-cong : {x x' y y' : Complex} → Same complex x x' → Same complex y y' → Same complex (complex.mul x y) (complex.mul x' y')
  product-cong p q =
      same (sub-cong (mul-cong (same-re p) (same-re q)) (mul-cong (same-im p) (same-im q)))
      (add_cong (mul-cong (same-re p) (same-im q)) (mul-cong (same-im p) (same-re q)))

  of-real-cong : {v v' : Float} → SameFactor complex v v' → Same complex (complex.from_real v) (complex.from_real v')
  of-real-cong h = same (record { same = h.same }) (same_refl zero_float)

  -- zero less zero and zero with zero
  product-zero : {p q r s : Float} → Same real64 p zero_float → Same real64 q zero_float → Same real64 r zero_float → Same real64 s zero_float
      → Same complex (record { re = real64.sub p q; im = real64.add r s }) complex.zero
  product-zero p q r s = same (same-trans (sub-cong p q) (sub-zero R.zero-holds)) (same-trans (add_cong r s) (add-zero R.zero-holds))

  -- x·(1, 0) and (1, 0)·x
  times-one : {x : Complex} → Holds complex x → Finite complex x → Same complex (complex.mul x complex.one) x
  times-one h f =
      same (same-trans (sub-cong (R.mul-one (holds-re h) (finite-re f)) (mul-zero (finite-im f))) (sub-zero (holds-re h)))
      (same-trans (add_cong (mul-zero (finite-re f)) (R.mul-one (holds-im h) (finite-im f))) (zero-add (holds-im h)))

  one-times : {x : Complex} → Holds complex x → Finite complex x → Same complex (complex.mul complex.one x) x
  one-times h f =
      same (same-trans (sub-cong (R.one-mul (holds-re h) (finite-re f)) (zero-mul (finite-im f))) (sub-zero (holds-re h)))
      (same-trans (add_cong (R.one-mul (holds-im h) (finite-im f)) (zero-mul (finite-re f))) (add-zero (holds-im h)))

  is-zero-same : {x : Complex} → complex.is_zero x ≡ true → Same complex x complex.zero
  is-zero-same {x} h = same (R.is-zero-same (and_left _ (real64.is_zero x.im) h)) (R.is-zero-same (and_right (real64.is_zero x.re) _ h))

  is-one-same : {x : Complex} → complex.is_one x ≡ true → Same complex x complex.one
  is-one-same {x} h = same (R.is-one-same (and_left _ (real64.is_zero x.im) h)) (R.is-zero-same (and_right (real64.is_one x.re) _ h))

  pub complex-laws : SlabLaws complex → Laws complex
  complex-laws slab =
      record {
        slab = slab;
        same_refl = λ x. same (same_refl x.re) (same_refl x.im);
        same-sym = λ h. same (R.same-sym (same-re h)) (R.same-sym (same-im h));
        same-trans = λ p q. same (same-trans (same-re p) (same-re q)) (same-trans (same-im p) (same-im q));
        add_cong = λ p q. same (add_cong (same-re p) (same-re q)) (add_cong (same-im p) (same-im q));
        sub-cong = λ p q. same (sub-cong (same-re p) (same-re q)) (sub-cong (same-im p) (same-im q));
        mul-cong = product-cong;
        conj-cong = λ h. same (same-re h) (neg-cong (same-im h));
        scale-cong = λ v h. product-cong (of-real-cong v) h;
        is_zero-cong = λ h i. R.is_zero-cong (same-re h) i && R.is_zero-cong (same-im h) i;
        is_one-cong = λ h i. R.is_one-cong (same-re h) i && R.is_zero-cong (same-im h) i;
        zero-holds = holds R.zero-holds R.zero-holds;
        one_holds = holds R.one_holds R.zero-holds;
        add_holds = λ x y. holds (R.add_holds _ _) (R.add_holds _ _);
        sub_holds = λ x y. holds (R.sub_holds _ _) (R.sub_holds _ _);
        mul_holds = λ x y. holds (R.sub_holds _ _) (R.add_holds _ _);
        div-holds = λ x y. holds (R.div-holds _ _) (R.div-holds _ _);
        conj-holds = λ h. holds (holds-re h) (neg-holds (holds-im h));
        scale-holds = λ v x. holds (R.sub_holds _ _) (R.add_holds _ _);
        zero-finite = finite R.zero-finite R.zero-finite;
        one-finite = finite R.one-finite R.zero-finite;
        conj-finite = λ h. finite (finite-re h) (neg-finite (finite-im h));
        finite-same = λ h f. finite (R.finite-same (same-re h) (finite-re f)) (R.finite-same (same-im h) (finite-im f));
        zero-is-zero = λ i. R.zero-is-zero i && R.zero-is-zero i;
        one-is-one = λ i. R.one-is-one i && R.zero-is-zero i;
        one_is_not_zero = λ i. R.one_is_not_zero i && R.zero-is-zero i;
        is-zero-same = is-zero-same;
        is-one-same = is-one-same;
        add-zero = λ h. same (add-zero (holds-re h)) (add-zero (holds-im h));
        zero-add = λ h. same (zero-add (holds-re h)) (zero-add (holds-im h));
        sub-zero = λ h. same (sub-zero (holds-re h)) (sub-zero (holds-im h));
        mul-zero = λ f. product-zero (mul-zero (finite-re f)) (mul-zero (finite-im f)) (mul-zero (finite-re f)) (mul-zero (finite-im f));
        zero-mul = λ f. product-zero (zero-mul (finite-re f)) (zero-mul (finite-im f)) (zero-mul (finite-im f)) (zero-mul (finite-re f));
        mul-one = times-one;
        one-mul = one-times;
        sub_self = λ f. same (R.sub_self (finite-re f)) (R.sub_self (finite-im f));
        sub-zero-same = λ h k p. same (R.sub-zero-same (holds-re h) (holds-re k) (same-re p)) (R.sub-zero-same (holds-im h) (holds-im k) (same-im p));
        conj-zero = same (same_refl zero_float) neg-zero;
        conj-one = same (same_refl _) neg-zero;
        conj-same = λ h. same (same-re h) (neg_same (same-im h));
      }
