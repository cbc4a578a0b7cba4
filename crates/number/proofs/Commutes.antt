-- A product is the same in either order of its operands, and a real number is its own conjugate.
use Prim.Native.Nat.{ℕ, ◌+◌, ◌*◌, ◌-◌, ◌<◌, ◌≤◌}
use mathlib.Core.Bool.{Bool, true, false, cond, ◌&&◌}
use mathlib.Core.Path.{◌≡◌, refl, ap, sym, ◌∙◌}
use native.Mathlib.Nat.{mul_comm}
use native.Mathlib.Omega.{arith}
use borrow.Author.Tests.{ltb-true, ltb-false}
use lib.Dec.{ltb, eqb}
use lib.Ieee.{Float, Format, binary64, nan, inf, fin, unlike, up, down, round, sum, add, mul, sub}
use Rattle.number.specs.declared.Complex.{Complex}
use Rattle.number.specs.Kind.{real, complex}
use Rattle.number.specs.Laws.{Commutes, SelfConjugate}

-- ---- floats

unlike-either : (s t : Bool) → unlike s t ≡ unlike t s
unlike-either true true = refl
unlike-either true false = refl
unlike-either false true = refl
unlike-either false false = refl

mul-either : (f : Format) (x y : Float) → mul f x y ≡ mul f y x
unfolding mul
mul-either f nan nan = refl
mul-either f nan (inf t) = refl
mul-either f nan (fin t n d) = refl
mul-either f (inf s) nan = refl
mul-either f (inf s) (inf t) = ap inf (unlike-either s t)
mul-either f (inf s) (fin t n d) = ap (λ (b : Bool). cond (eqb n 0) nan (inf b)) (unlike-either s t)
mul-either f (fin s m e) nan = refl
mul-either f (fin s m e) (inf t) = ap (λ (b : Bool). cond (eqb m 0) nan (inf b)) (unlike-either s t)
mul-either f (fin s m e) (fin t n d) = λ i. round f (unlike-either s t i) (mul_comm (m * up e) (n * up d) i) (mul_comm (down e) (down d) i)

-- of a difference the larger part has the sign, and equal parts leave +0
difference : (f : Format) (a b c : ℕ) → cond (ltb a b) (round f false (b - a) c) (round f (true && ltb b a) (a - b) c) ≡ cond (ltb b a) (round f true (a - b) c) (round f (false && ltb a b) (b - a) c)
difference f a b c = go (ltb a b) (ltb b a) refl refl
  where
    go : (p q : Bool) → ltb a b ≡ p → ltb b a ≡ q → cond p (round f false (b - a) c) (round f (true && q) (a - b) c) ≡ cond q (round f true (a - b) c) (round f (false && p) (b - a) c)
    go true true g h = absurd (neither (ltb-true a b g) (ltb-true b a h))
      where
        neither : a < b → b < a → ⊥
        neither g h = omega arith
    go true false g h = refl
    go false true g h = refl
    go false false g h = ap (λ (n : ℕ). round f false n c) (none (ltb-false a b g) (ltb-false b a h))
      where
        none : b ≤ a → a ≤ b → a - b ≡ b - a
        none g h = omega arith

sum-either : (f : Format) (s t : Bool) (a b c : ℕ) → sum f s a t b c ≡ sum f t b s a c
unfolding sum
sum-either f true true a b c = let e : a + b ≡ b + a = omega arith in ap (λ (n : ℕ). round f true n c) e
sum-either f true false a b c = difference f a b c
sum-either f false true a b c = sym (difference f b a c)
sum-either f false false a b c = let e : a + b ≡ b + a = omega arith in ap (λ (n : ℕ). round f false n c) e

add-either : (f : Format) (x y : Float) → add f x y ≡ add f y x
unfolding add
add-either f nan nan = refl
add-either f nan (inf t) = refl
add-either f nan (fin t n d) = refl
add-either f (inf s) nan = refl
add-either f (inf true) (inf true) = refl
add-either f (inf true) (inf false) = refl
add-either f (inf false) (inf true) = refl
add-either f (inf false) (inf false) = refl
add-either f (inf s) (fin t n d) = refl
add-either f (fin s m e) nan = refl
add-either f (fin s m e) (inf t) = refl
add-either f (fin s m e) (fin t n d) =
    sum-either f s t (m * up e * down d) (n * up d * down e) (down e * down d) ∙ ap (sum f t (n * up d * down e) s (m * up e * down d)) (mul_comm (down e) (down d))

-- ---- the kinds

pub real-commutes : (f : Format) → Commutes (real f)
real-commutes f = record { commutes = mul-either f }

pub real-self-conjugate : (f : Format) → SelfConjugate (real f)
real-self-conjugate f = record { own = λ x. refl }

pub complex-commutes : Commutes complex
complex-commutes = record {
  commutes = λ x y i. record {
    re = sub binary64 (mul-either binary64 x.re y.re i) (mul-either binary64 x.im y.im i);
    im = crossed x y i;
  };
}
  where
    crossed : (x y : Complex) → add binary64 (mul binary64 x.re y.im) (mul binary64 x.im y.re) ≡ add binary64 (mul binary64 y.re x.im) (mul binary64 y.im x.re)
    crossed x y =
        add-either binary64 (mul binary64 x.re y.im) (mul binary64 x.im y.re)
        ∙ (λ i. add binary64 (mul-either binary64 x.im y.re i) (mul-either binary64 x.re y.im i))
