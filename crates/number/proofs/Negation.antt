-- Negation of a float, as the conjugate needs it: it respects equality as numbers and is one to one up to it, it keeps what a format
-- holds and what is finite, and a whole number's is the negated number's.
use mathlib.Core.Bool.{Bool, true, false, not}
use mathlib.Core.Path.{◌≡◌, refl, ap, subst, subst₂, sym}
use lib.Dec.{T}
use lib.Ieee.{Float, binary64, nan, inf, fin, neg}
use lib.Ieee.Fits.{neg-fits}
use lib.IntN.{ℤ, neg_ℤ}
use Rattle.number.specs.Kind.{Same, Holds, Finite, real64, zero_float, same_float, finite_float}
use Rattle.number.specs.Integers.{float_of_integer}
use Rattle.number.proofs.Same.{same→test, same_refl}
use Rattle.number.proofs.FloatArithmetic as FloatArithmetic
use Rattle.number.proofs.FloatExact as FloatExact
use Rattle.number.proofs.RealLaws.{same→float, float→same}
use Rattle.number.proofs.RealExact.{neg-integer}

-- a float equals itself as a number, NaN too
pub same_float-refl : (x : Float) → T (same_float x x)
same_float-refl x = same→test (same_refl x)

pub neg-cong : {x y : Float} → Same real64 x y → Same real64 (neg x) (neg y)
neg-cong h = float→same binary64 (FloatArithmetic.neg-cong (same→float binary64 h))

not-not : (s : Bool) → not (not s) ≡ s
not-not true = refl
not-not false = refl

neg-neg : (x : Float) → neg (neg x) ≡ x
unfolding neg
neg-neg nan = refl
neg-neg (inf s) = ap inf (not-not s)
neg-neg (fin s m e) = ap (λ (t : Bool). fin t m e) (not-not s)

-- one to one
pub neg_same : {x y : Float} → Same real64 (neg x) (neg y) → Same real64 x y
neg_same {x} {y} h = subst₂ (λ (a b : Float). Same real64 a b) (neg-neg x) (neg-neg y) (neg-cong h)

pub neg-holds : {x : Float} → Holds real64 x → Holds real64 (neg x)
neg-holds {x} h = record { holds = neg-fits binary64 x h.holds }

finite-neg : (x : Float) → finite_float (neg x) ≡ finite_float x
unfolding neg finite_float
finite-neg nan = refl
finite-neg (inf s) = refl
finite-neg (fin s m e) = refl

pub neg-finite : {x : Float} → Finite real64 x → Finite real64 (neg x)
neg-finite {x} h = record { finite = subst T (sym (finite-neg x)) h.finite }

pub neg-zero : Same real64 (neg zero_float) zero_float
neg-zero = float→same binary64 FloatExact.neg-zero

pub neg-exact : (a : ℤ) → Same real64 (neg (float_of_integer a)) (float_of_integer (neg_ℤ a))
neg-exact a = float→same binary64 (neg-integer a)
