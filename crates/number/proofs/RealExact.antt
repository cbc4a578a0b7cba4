-- Exactness of the real kinds, once over the format: on whole numbers whose sizes sum up, or for a product multiply, to at most 2 ^ prec,
-- the operations give the whole numbers' own results.
use mathlib.Core.Path.{◌≡◌, refl, sym, ap, ◌∙◌, subst}
use mathlib.Core.Bool.{Bool, true, false, not, ◌&&◌, cond}
use Prim.Native.Nat.{ℕ, zero, suc, ◌+◌, ◌-◌, ◌*◌, ◌^◌, ◌≤◌, ◌<◌}
use native.Mathlib.Nat.{le_refl, le_trans, le_of_eq, mul-one, zero-lt-suc}
use native.Mathlib.Omega.{arith}
use lib.Dec.{T, ltb, eqb, ltb→lt, nltb→le, eqb-zero-suc, eqb-suc-zero, eqb-suc-suc}
use lib.IntN.{ℤ, pos, negsuc, neg_ℤ, nat_abs, sub_ℕ, ◌+ℤ◌, ◌-ℤ◌, ◌*ℤ◌}
use lib.Ieee.{Float, nan, inf, fin, Format, prec, up, down, round, add, sub, mul, neg, level, eq}
use lib.Ieee.Back.{round_whole}
use Rattle.number.specs.Kind.{real, zero_float, one_float}
use Rattle.number.specs.Integers.{integers, same_integer, float_of_integer, size_integer}
use Rattle.number.specs.Laws.{Exact}
use Rattle.number.proofs.Same.{plus_part, minus_part, SameFloat, same_refl, same-trans, same-of-eq, frac-trans}
use Rattle.number.proofs.FloatArithmetic.{Gap, over, under, gap, diff, diff_over, diff_under, Value, value_same, value_of, add-diff, add_cong, sub-cong, times_diff, mul-diff, mul-cong}
use Rattle.number.proofs.FloatExact.{neg-zero}
use Rattle.number.proofs.RealLaws.{same→float, factor→float, float→same, eq-cong}

-- ---- an integer is plus − less

abbrev sign : ℤ → Bool
sign (pos n) = false
sign (negsuc n) = true

abbrev plusℤ : ℤ → ℕ
plusℤ z = plus_part (sign z) (nat_abs z)

abbrev lessℤ : ℤ → ℕ
lessℤ z = minus_part (sign z) (nat_abs z)

float_is : (z : ℤ) → float_of_integer z ≡ fin (sign z) (nat_abs z) (pos 0)
float_is (pos n) = refl
float_is (negsuc n) = refl

-- z is p − l
abbrev IsDiff : ℤ → ℕ → ℕ → Type 0
IsDiff z p l = plusℤ z + l ≡ p + lessℤ z

float_value : (z : ℤ) (p l : ℕ) → IsDiff z p l → Value (float_of_integer z) p l 1
float_value (pos n) p l h = omega arith
float_value (negsuc n) p l h = omega arith

sub_is : (a b : ℕ) → IsDiff (sub_ℕ a b) a b
sub_is a b = go (ltb a b) (ltb→lt a b) (nltb→le a b)
  where
    go : (c : Bool) → (T c → a < b) → (T (not c) → b ≤ a) → IsDiff (cond c (negsuc (b - suc a)) (pos (a - b))) a b
    go true h k = omega (arith, h tt)
    go false h k = omega (arith, k tt)

add_is : (a b : ℤ) → IsDiff (a +ℤ b) (plusℤ a + plusℤ b) (lessℤ a + lessℤ b)
add_is (pos a) (pos b) = omega arith
add_is (pos a) (negsuc b) = omega (arith, sub_is a (suc b))
add_is (negsuc a) (pos b) = omega (arith, sub_is b (suc a))
add_is (negsuc a) (negsuc b) = omega arith

neg_is : (n : ℕ) → IsDiff (neg_ℤ (pos n)) 0 n
neg_is zero = refl
neg_is (suc n) = omega arith

mul_is : (a b : ℤ) → IsDiff (a *ℤ b) (plusℤ a * plusℤ b + lessℤ a * lessℤ b) (plusℤ a * lessℤ b + lessℤ a * plusℤ b)
mul_is (pos a) (pos b) = omega arith
mul_is (pos a) (negsuc b) = omega (arith, neg_is (a * suc b))
mul_is (negsuc a) (pos b) = omega (arith, neg_is (suc a * b))
mul_is (negsuc a) (negsuc b) = omega arith

-- ---- sizes

size-sub : (a b : ℕ) → nat_abs (sub_ℕ a b) ≤ a + b
size-sub a b = go (ltb a b) (ltb→lt a b)
  where
    go : (c : Bool) → (T c → a < b) → nat_abs (cond c (negsuc (b - suc a)) (pos (a - b))) ≤ a + b
    go true h = omega (arith, h tt)
    go false h = omega arith

pub size-add : (a b : ℤ) → nat_abs (a +ℤ b) ≤ nat_abs a + nat_abs b
size-add (pos a) (pos b) = le_refl (a + b)
size-add (pos a) (negsuc b) = size-sub a (suc b)
size-add (negsuc a) (pos b) = omega (arith, size-sub b (suc a))
size-add (negsuc a) (negsuc b) = omega arith

pub size-neg : (z : ℤ) → nat_abs (neg_ℤ z) ≡ nat_abs z
size-neg (pos zero) = refl
size-neg (pos (suc n)) = refl
size-neg (negsuc n) = refl

pub size-mul : (a b : ℤ) → nat_abs (a *ℤ b) ≤ nat_abs a * nat_abs b
size-mul (pos a) (pos b) = le_refl (a * b)
size-mul (pos a) (negsuc b) = le_of_eq (size-neg (pos (a * suc b)))
size-mul (negsuc a) (pos b) = le_of_eq (size-neg (pos (suc a * b)))
size-mul (negsuc a) (negsuc b) = le_refl (suc a * suc b)

-- ---- p − l of at most 2 ^ prec is not rounded

value-move : (x : Float) (p l p' l' : ℕ) → p + l' ≡ p' + l → Value x p l 1 → Value x p' l' 1
value-move nan p l p' l' h v = v
value-move (inf s) p l p' l' h v = v
value-move (fin s m e) p l p' l' h v = frac-trans (plus_part s (m * up e)) (minus_part s (m * up e)) (down e) p l 1 p' l' 1 (zero-lt-suc 0) v (omega arith)

diff-whole : (f : Format) (p l : ℕ) → p ≤ 2 ^ prec f → l ≤ 2 ^ prec f → Value (diff f p l 1) p l 1
diff-whole f p l = go (gap p l)
  where
    go : {p l : ℕ} → Gap p l → p ≤ 2 ^ prec f → l ≤ 2 ^ prec f → Value (diff f p l 1) p l 1
    go (over l k) a b =
        subst (λ (x : Float). Value x (l + k) l 1) (sym (diff_over f l k 1))
        (value-move (round f false k 1) k 0 (l + k) l (omega arith) (value_of (round f false k 1) false k 1 (round_whole f false k (omega arith))))
    go (under p k) a b =
        subst (λ (x : Float). Value x p (p + suc k) 1) (sym (diff_under f p k 1))
        (value-move (round f true (suc k) 1) 0 (suc k) p (p + suc k) (omega arith) (value_of (round f true (suc k) 1) true (suc k) 1 (round_whole f true (suc k) (omega arith))))

-- a rounding of p − l is the integer that p − l is
diff-integer : (f : Format) (z : ℤ) (p l : ℕ) → IsDiff z p l → p ≤ 2 ^ prec f → l ≤ 2 ^ prec f → SameFloat (diff f p l 1) (float_of_integer z)
diff-integer f z p l h a b = value_same (diff f p l 1) (float_of_integer z) p l 1 (zero-lt-suc 0) (diff-whole f p l a b) (float_value z p l h)

-- ---- the operations on integers as floats

plus_one : (s : Bool) (n : ℕ) → plus_part s (n * 1) * 1 ≡ plus_part s n
plus_one s n = mul-one (plus_part s (n * 1)) ∙ ap (plus_part s) (mul-one n)

less_one : (s : Bool) (n : ℕ) → minus_part s (n * 1) * 1 ≡ minus_part s n
less_one s n = mul-one (minus_part s (n * 1)) ∙ ap (minus_part s) (mul-one n)

plus-le : (s : Bool) (n : ℕ) → plus_part s n ≤ n
plus-le false n = le_refl n
plus-le true n = omega arith

less-le : (s : Bool) (n : ℕ) → minus_part s n ≤ n
less-le false n = omega arith
less-le true n = le_refl n

pub add-integers : (f : Format) (a b : ℤ) → nat_abs a + nat_abs b ≤ 2 ^ prec f → SameFloat (add f (float_of_integer a) (float_of_integer b)) (float_of_integer (a +ℤ b))
add-integers f a b h =
    same-trans (same-of-eq (λ i. add f (float_is a i) (float_is b i)))
    (same-trans (add-diff f (sign a) (nat_abs a) (pos 0) (sign b) (nat_abs b) (pos 0))
    (same-trans (same-of-eq (λ i. diff f (plus_one (sign a) (nat_abs a) i + plus_one (sign b) (nat_abs b) i) (less_one (sign a) (nat_abs a) i + less_one (sign b) (nat_abs b) i) 1))
    (diff-integer f (a +ℤ b) (plusℤ a + plusℤ b) (lessℤ a + lessℤ b) (add_is a b)
    (omega (arith, plus-le (sign a) (nat_abs a), plus-le (sign b) (nat_abs b))) (omega (arith, less-le (sign a) (nat_abs a), less-le (sign b) (nat_abs b))))))

pub neg-integer : (z : ℤ) → SameFloat (neg (float_of_integer z)) (float_of_integer (neg_ℤ z))
unfolding neg
neg-integer (pos zero) = neg-zero
neg-integer (pos (suc n)) = same_refl (fin true (suc n) (pos 0))
neg-integer (negsuc n) = same_refl (fin false (suc n) (pos 0))

pub sub-integers : (f : Format) (a b : ℤ) → nat_abs a + nat_abs b ≤ 2 ^ prec f → SameFloat (sub f (float_of_integer a) (float_of_integer b)) (float_of_integer (a -ℤ b))
unfolding sub
sub-integers f a b h =
    same-trans (add_cong f (same_refl (float_of_integer a)) (neg-integer b)) (add-integers f a (neg_ℤ b) (omega (arith, size-neg b)))

-- of the product's plus and less one is 0
mul-le : (s : Bool) (m : ℕ) (t : Bool) (n : ℕ) → (plus_part s m * plus_part t n + minus_part s m * minus_part t n ≤ m * n) × (plus_part s m * minus_part t n + minus_part s m * plus_part t n ≤ m * n)
mul-le false m false n = omega arith
mul-le false m true n = omega arith
mul-le true m false n = omega arith
mul-le true m true n = omega arith

pub mul-integers : (f : Format) (a b : ℤ) → nat_abs a * nat_abs b ≤ 2 ^ prec f → SameFloat (mul f (float_of_integer a) (float_of_integer b)) (float_of_integer (a *ℤ b))
mul-integers f a b h =
    let bounds = mul-le (sign a) (nat_abs a) (sign b) (nat_abs b) in
    same-trans (same-of-eq (λ i. mul f (float_is a i) (float_is b i)))
    (same-trans (mul-diff f (sign a) (nat_abs a) (pos 0) (sign b) (nat_abs b) (pos 0))
    (same-trans (same-of-eq (λ i. times_diff f (plus_part (sign a) (mul-one (nat_abs a) i)) (minus_part (sign a) (mul-one (nat_abs a) i)) 1 (plus_part (sign b) (mul-one (nat_abs b) i)) (minus_part (sign b) (mul-one (nat_abs b) i)) 1))
    (diff-integer f (a *ℤ b) (plusℤ a * plusℤ b + lessℤ a * lessℤ b) (plusℤ a * lessℤ b + lessℤ a * plusℤ b) (mul_is a b) (le_trans bounds.0 h) (le_trans bounds.1 h))))

-- ---- comparison

and-true : (a : Bool) → a && true ≡ a
and-true true = refl
and-true false = refl

and-false : (a : Bool) → a && false ≡ false
and-false true = refl
and-false false = refl

level-unlike : (m n : ℕ) → level false m true (suc n) ≡ false
level-unlike zero n = ap (λ (b : Bool). b && true) (eqb-zero-suc n)
level-unlike (suc m) n = ap (λ (b : Bool). eqb (suc m) (suc n) && b) (eqb-suc-zero m) ∙ and-false (eqb (suc m) (suc n))

level-integers : (a b : ℤ) → level (sign a) (nat_abs a) (sign b) (nat_abs b) ≡ same_integer a b
level-integers (pos m) (pos n) = and-true (eqb m n)
level-integers (pos m) (negsuc n) = level-unlike m n
level-integers (negsuc m) (pos n) = ap (λ (b : Bool). eqb (suc m) n && b) (eqb-suc-zero m) ∙ and-false (eqb (suc m) n)
level-integers (negsuc m) (negsuc n) = and-true (eqb (suc m) (suc n)) ∙ eqb-suc-suc m n

eq-opens : (s : Bool) (m : ℕ) (t : Bool) (n : ℕ) → eq (fin s m (pos 0)) (fin t n (pos 0)) ≡ level s (m * 1 * 1) t (n * 1 * 1)
unfolding eq
eq-opens s m t n = refl

pub eq-integers : (a b : ℤ) → eq (float_of_integer a) (float_of_integer b) ≡ same_integer a b
eq-integers a b =
    (λ i. eq (float_is a i) (float_is b i))
    ∙ eq-opens (sign a) (nat_abs a) (sign b) (nat_abs b)
    ∙ (λ i. level (sign a) (ones (nat_abs a) i) (sign b) (ones (nat_abs b) i))
    ∙ level-integers a b
  where
    ones : (n : ℕ) → n * 1 * 1 ≡ n
    ones n = omega arith

pub is-zero : {x : Float} (a : ℤ) → SameFloat x (float_of_integer a) → eq x zero_float ≡ same_integer a (pos 0)
is-zero a h = eq-cong false 0 (pos 0) h ∙ eq-integers a (pos 0)

pub is_one : {x : Float} (a : ℤ) → SameFloat x (float_of_integer a) → eq x one_float ≡ same_integer a (pos 1)
is_one a h = eq-cong false 1 (pos 0) h ∙ eq-integers a (pos 1)

-- ---- the record: an `abbrev`, since what it calls whole, its sizes and its bound are part of the statement

abbrev pub real-exact : (f : Format) → Exact (real f) integers
real-exact f =
    record {
      of_whole = float_of_integer;
      of_whole_factor = float_of_integer;
      size = size_integer;
      size_factor = size_integer;
      bound = 2 ^ prec f;
      zero-exact = float→same f (same_refl zero_float);
      one-exact = float→same f (same_refl one_float);
      add-exact = λ {x} {y} {a} {b} h k l. float→same f (same-trans (add_cong f (same→float f h) (same→float f k)) (add-integers f a b l));
      sub-exact = λ {x} {y} {a} {b} h k l. float→same f (same-trans (sub-cong f (same→float f h) (same→float f k)) (sub-integers f a b l));
      mul-exact = λ {x} {y} {a} {b} h k l. float→same f (same-trans (mul-cong f (same→float f h) (same→float f k)) (mul-integers f a b l));
      conj-exact = λ {x} {a} h. h;
      scale-exact = λ {v} {x} {c} {a} h k l. float→same f (same-trans (mul-cong f (factor→float f h) (same→float f k)) (mul-integers f c a l));
      is_zero-exact = λ {x} {a} h. is-zero a (same→float f h);
      is_one-exact = λ {x} {a} h. is_one a (same→float f h);
      is_zero_factor-exact = λ {v} {c} h. is-zero c (factor→float f h);
      is_one_factor-exact = λ {v} {c} h. is_one c (factor→float f h);
      size-zero = refl;
      size-add = size-add;
      size-sub = λ a b. le_trans (size-add a (neg_ℤ b)) (omega (arith, size-neg b));
      size-mul = size-mul;
      size-conj = λ a. refl;
      size_scale = size-mul;
    }
