-- The laws of the real kinds, each once over the format. Those of a slab are handed in.
use mathlib.Core.Path.{◌≡◌, refl, sym, subst}
use mathlib.Core.Bool.{Bool, true, false, ◌&&◌, ◌||◌}
use Prim.Native.Nat.{ℕ}
use lib.Dec.{T}
use lib.IntN.{ℤ, pos}
use lib.Ieee.{Float, fin, Format, binary32, binary64, fits, eq, is_nan}
use lib.Ieee.Fits as Fits
use Rattle.number.specs.Kind.{Same, SameFactor, real, zero_float, one_float, finite_float}
use Rattle.number.specs.Laws.{Laws, SlabLaws}
use Rattle.number.proofs.Same.{SameFloat, both-nan, both-inf, both-fin, same_refl, same-sym, same-trans, test→same, same→test}
use Rattle.number.proofs.FloatArithmetic as Arithmetic
use Rattle.number.proofs.FloatExact as Exactly

-- ---- comparison with a finite number

bool-ext : (a b : Bool) → (T a → T b) → (T b → T a) → a ≡ b
bool-ext true true f g = refl
bool-ext false false f g = refl
bool-ext true false f g = absurd (f tt)
bool-ext false true f g = absurd (g tt)

left : (a b : Bool) → T a → T (a || b)
left true b t = tt
left false b t = absurd t

right-false : (a b : Bool) → T (a || (b && false)) → T a
right-false true b t = tt
right-false false true t = t
right-false false false t = t

pub eq→same : (x y : Float) → T (eq x y) → SameFloat x y
eq→same x y t = test→same x y (left (eq x y) (is_nan x && is_nan y) t)

pub same→eq : {x : Float} (s : Bool) (m : ℕ) (e : ℤ) → SameFloat x (fin s m e) → T (eq x (fin s m e))
unfolding is_nan
same→eq {x} s m e h = right-false (eq x (fin s m e)) (is_nan x) (same→test h)

pub eq-cong : {x y : Float} (s : Bool) (m : ℕ) (e : ℤ) → SameFloat x y → eq x (fin s m e) ≡ eq y (fin s m e)
eq-cong {x} {y} s m e h =
    bool-ext (eq x (fin s m e)) (eq y (fin s m e))
    (λ t. same→eq s m e (same-trans (same-sym h) (eq→same x (fin s m e) t)))
    (λ t. same→eq s m e (same-trans h (eq→same y (fin s m e) t)))

finite-same : {x y : Float} → SameFloat x y → T (finite_float x) → T (finite_float y)
unfolding finite_float
finite-same both-nan t = t
finite-same (both-inf s) t = t
finite-same (both-fin s m e s' m' e' h) t = tt

-- ---- zero and one

zero-holds : (f : Format) → T (fits f zero_float)
unfolding fits
zero-holds f = tt

one_holds : (f : Format) → T (fits f one_float)
unfolding fits
one_holds binary32 = tt
one_holds binary64 = tt

-- ---- the laws

module _ (f : Format) where
  pub same→float : {x y : Float} → Same (real f) x y → SameFloat x y
  same→float {x} {y} h = test→same x y h.same

  pub factor→float : {v w : Float} → SameFactor (real f) v w → SameFloat v w
  factor→float {v} {w} h = test→same v w h.same

  pub float→same : {x y : Float} → SameFloat x y → Same (real f) x y
  float→same h = record { same = same→test h }

  pub real-laws : (s : SlabLaws (real f)) → Laws (real f)
  real-laws s =
      record {
        slab = s;
        same_refl = λ x. float→same (same_refl x);
        same-sym = λ {x} {y} h. float→same (same-sym (same→float h));
        same-trans = λ {x} {y} {z} h k. float→same (same-trans (same→float h) (same→float k));
        add_cong = λ {x} {x'} {y} {y'} h k. float→same (Arithmetic.add_cong f (same→float h) (same→float k));
        sub-cong = λ {x} {x'} {y} {y'} h k. float→same (Arithmetic.sub-cong f (same→float h) (same→float k));
        mul-cong = λ {x} {x'} {y} {y'} h k. float→same (Arithmetic.mul-cong f (same→float h) (same→float k));
        conj-cong = λ {x} {x'} h. h;
        scale-cong = λ {v} {v'} {x} {x'} h k. float→same (Arithmetic.mul-cong f (factor→float h) (same→float k));
        is_zero-cong = λ {x} {x'} h. eq-cong false 0 (pos 0) (same→float h);
        is_one-cong = λ {x} {x'} h. eq-cong false 1 (pos 0) (same→float h);
        zero-holds = record { holds = zero-holds f };
        one_holds = record { holds = one_holds f };
        add_holds = λ x y. record { holds = Fits.add-fits f x y };
        sub_holds = λ x y. record { holds = Fits.sub-fits f x y };
        mul_holds = λ x y. record { holds = Fits.mul-fits f x y };
        div-holds = λ x y. record { holds = Fits.div-fits f x y };
        conj-holds = λ {x} h. h;
        scale-holds = λ v x. record { holds = Fits.mul-fits f v x };
        zero-finite = record { finite = unfold finite_float in tt };
        one-finite = record { finite = unfold finite_float in tt };
        conj-finite = λ {x} h. h;
        finite-same = λ {x} {y} h k. record { finite = finite-same (same→float h) k.finite };
        zero-is-zero = unfold eq in refl;
        one-is-one = unfold eq in refl;
        one_is_not_zero = unfold eq in refl;
        is-zero-same = λ {x} h. float→same (eq→same x zero_float (subst T (sym h) tt));
        is-one-same = λ {x} h. float→same (eq→same x one_float (subst T (sym h) tt));
        add-zero = λ {x} h. float→same (Exactly.add-zero f x h.holds);
        zero-add = λ {x} h. float→same (Exactly.zero-add f x h.holds);
        sub-zero = λ {x} h. float→same (Exactly.sub-zero f x h.holds);
        mul-zero = λ {x} h. float→same (Exactly.mul-zero f x h.finite);
        zero-mul = λ {x} h. float→same (Exactly.zero-mul f x h.finite);
        mul-one = λ {x} h k. float→same (Exactly.mul-one f x h.holds k.finite);
        one-mul = λ {x} h k. float→same (Exactly.one-mul f x h.holds k.finite);
        sub_self = λ {x} h. float→same (Exactly.sub_self f x h.finite);
        sub-zero-same = λ {x} {y} a b h. float→same (Exactly.sub-zero-same f x y a.holds b.holds (same→float h));
        conj-zero = float→same (same_refl zero_float);
        conj-one = float→same (same_refl one_float);
        conj-same = λ {x} {y} h. h;
      }
