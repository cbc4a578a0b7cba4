-- What rounding leaves unchanged: a number that the format holds, so that x + 0, x − 0 and x · 1 are x.
-- And gradual underflow: the difference of two numbers that the format holds rounds to zero only where it is zero.
use mathlib.Core.Path.{◌≡◌, refl, sym, ap, ◌∙◌, subst}
use mathlib.Core.Bool.{Bool, true, false, not, ◌&&◌, beq, cond}
use Prim.Native.Nat.{ℕ, zero, suc, ◌+◌, ◌-◌, ◌*◌, ◌%◌, ◌^◌, ◌≤◌, ◌<◌}
use native.Mathlib.Nat.{le_trans, le_of_suc-le-suc, lt_of_not-le, not-le_of_lt, lt_of_mul-lt-mul_right, mul-lt-mul_of_pos_right, mul-pos, zero-lt-suc}
use native.Mathlib.Nat as NatL
use native.Mathlib.Omega.{arith}
use lib.Dec.{T, ltb, leb, eqb, ltb→lt, leb→le, eqb→eq}
use lib.IntN.{ℤ, pos, negsuc}
use lib.Pow.{pow-add, pow_pos, pow-lt}
use lib.Ieee.{Float, nan, inf, fin, Format, prec, emax, low, up, down, odd, units, round, add, sub, mul, neg, fits, eq, is_nan}
use lib.Ieee.Digits.{back}
use lib.Ieee.Exact.{HasValue, round_exact}
use lib.Ieee.Fits.{up_pos, down_pos, and_l, and_r, round_is, two, two-le_pos}
use lib.Ieee.Order.{drop, kept, round_mono}
use lib.Ieee.Positive.{positive, above, positive_of_value, above_of_le}
use Rattle.number.specs.Kind.{zero_float, one_float, finite_float}
use Rattle.number.proofs.Same.{Frac, plus_part, minus_part, SameFloat, both-nan, both-inf, both-fin, same_refl, same-sym, same-trans, same-of-eq, same→test}
use Rattle.number.proofs.FloatArithmetic.{Gap, over, under, gap, diff, diff_over, diff_under, diff-same, value_same, value_of, round-diff, plus_diff, add-diff, add_cong, neg-cong, mul-diff}

-- ---- what the format holds: few digits, an exponent that is not too low, a magnitude that is not too large

record Parts (f : Format) (m : ℕ) (e : ℤ) : Type 0 where
  digits : m < 2 ^ prec f
  fine : down e ≤ 2 ^ low f
  small : m * up e < 2 ^ suc (emax f) * down e

parts : (f : Format) (s : Bool) (m : ℕ) (e : ℤ) → T (fits f (fin s m e)) → Parts f m e
unfolding fits
parts f s zero e t = record { digits = pow_pos (prec f); fine = le_trans (flat e (eqb→eq (up e * down e) 1 t)) (pow_pos (low f)); small = omega (arith, mul-pos (pow_pos (suc (emax f))) (down_pos e)) }
  where
    flat : (e : ℤ) → up e * down e ≡ 1 → down e ≤ 1
    flat (pos k) h = zero-lt-suc 0
    flat (negsuc k) h = omega arith
parts f s (suc m) e t =
    let a : Bool = eqb (suc m % 2) 1 in
    let b : Bool = ltb (suc m) (2 ^ prec f) in
    let c : Bool = leb (down e) (2 ^ low f) in
    let d : Bool = ltb (suc m * up e) (2 ^ suc (emax f) * down e) in
    record {
      digits = ltb→lt (suc m) (2 ^ prec f) (and_r a b (and_l (a && b) c (and_l (a && b && c) d t)));
      fine = leb→le (down e) (2 ^ low f) (and_r (a && b) c (and_l (a && b && c) d t));
      small = ltb→lt (suc m * up e) (2 ^ suc (emax f) * down e) (and_r (a && b && c) d t);
    }

-- ---- in units of the format's smallest value, 2 ^ -low, such a number is m · 2 ^ j

pow-cancel : (i l : ℕ) → 2 ^ i ≤ 2 ^ l → i ≤ l
pow-cancel i l h = le_of_suc-le-suc (lt_of_not-le (λ (g : suc l ≤ i). not-le_of_lt (pow-lt g) h))

grain : (l : ℕ) (e : ℤ) → down e ≤ 2 ^ l → (j : ℕ) × (up e * 2 ^ l ≡ 2 ^ j * down e)
grain l (pos k) h = (k + l, sym (pow-add 2 k l) ∙ sym (NatL.mul-one (2 ^ (k + l))))
grain l (negsuc k) h = (l - suc k, NatL.one-mul (2 ^ l) ∙ ap (λ (z : ℕ). 2 ^ z) (sym (back l (suc k) (pow-cancel (suc k) l h))) ∙ pow-add 2 (l - suc k) (suc k))

divides : (l : ℕ) (e : ℤ) → down e ≤ 2 ^ l → (k : ℕ) × (2 ^ l ≡ k * down e)
divides l (pos k) h = (2 ^ l, sym (NatL.mul-one (2 ^ l)))
divides l (negsuc k) h = (2 ^ (l - suc k), ap (λ (z : ℕ). 2 ^ z) (sym (back l (suc k) (pow-cancel (suc k) l h))) ∙ pow-add 2 (l - suc k) (suc k))

held-value : (f : Format) (s : Bool) (m : ℕ) (e : ℤ) → T (fits f (fin s m e)) → HasValue (round f s (m * up e) (down e)) s (m * up e) (down e)
held-value f s m e t =
    let p = parts f s m e t in
    let g = grain (low f) e p.fine in
    let w = 2 ^ low f in
    let scaled : m * up e * w ≡ m * 2 ^ g.0 * down e = omega (arith, ap (λ (z : ℕ). m * z) g.1) in
    let below : m * 2 ^ g.0 * down e < 2 ^ (low f + suc (emax f)) * down e =
    subst (λ (z : ℕ). z < 2 ^ (low f + suc (emax f)) * down e) scaled
    (subst (λ (z : ℕ). m * up e * w < z * down e) (sym (pow-add 2 (low f) (suc (emax f))))
    (omega (arith, mul-lt-mul_of_pos_right p.small (pow_pos (low f))))) in
    round_exact f s (m * up e) (down e) m g.0 (down_pos e) p.digits (lt_of_mul-lt-mul_right (down e) below) scaled

-- so a rounding of its value is the number
held-diff : (f : Format) (s : Bool) (m : ℕ) (e : ℤ) (p l c : ℕ) → T (fits f (fin s m e)) → 0 < c → Frac p l c (plus_part s (m * up e)) (minus_part s (m * up e)) (down e)
    → SameFloat (diff f p l c) (fin s m e)
held-diff f s m e p l c t C h =
    let a = m * up e in
    let r = round f s a (down e) in
    same-trans (same-of-eq (diff-same f p l c (plus_part s a) (minus_part s a) (down e) C (down_pos e) h))
    (same-trans (same-sym (round-diff f s a (down e) (down_pos e)))
    (value_same r (fin s m e) (plus_part s a) (minus_part s a) (down e) (down_pos e) (value_of r s a (down e) (held-value f s m e t)) refl))

zero-diff : (f : Format) (p l c : ℕ) → 0 < c → p ≡ l → SameFloat (diff f p l c) zero_float
zero-diff f p l c C h = held-diff f false 0 (pos 0) p l c (unfold fits in tt) C (omega arith)

-- ---- zero and one

pub add-zero : (f : Format) (x : Float) → T (fits f x) → SameFloat (add f x zero_float) x
unfolding add
add-zero f nan t = both-nan
add-zero f (inf s) t = both-inf s
add-zero f (fin s m e) t =
    let p = plus_part s (m * up e) in
    let l = minus_part s (m * up e) in
    let c = down e in
    same-trans (add-diff f s m e false 0 (pos 0)) (held-diff f s m e (p * 1 + 0 * c) (l * 1 + 0 * c) (c * 1) t (mul-pos (down_pos e) (zero-lt-suc 0)) (omega arith))

pub zero-add : (f : Format) (x : Float) → T (fits f x) → SameFloat (add f zero_float x) x
unfolding add
zero-add f nan t = both-nan
zero-add f (inf s) t = both-inf s
zero-add f (fin s m e) t =
    let p = plus_part s (m * up e) in
    let l = minus_part s (m * up e) in
    let c = down e in
    same-trans (add-diff f false 0 (pos 0) s m e) (held-diff f s m e (0 * c + p * 1) (0 * c + l * 1) (1 * c) t (mul-pos (zero-lt-suc 0) (down_pos e)) (omega arith))

pub neg-zero : SameFloat (neg zero_float) zero_float
unfolding neg
neg-zero = both-fin true 0 (pos 0) false 0 (pos 0) refl

pub sub-zero : (f : Format) (x : Float) → T (fits f x) → SameFloat (sub f x zero_float) x
unfolding sub
sub-zero f x t = same-trans (add_cong f (same_refl x) neg-zero) (add-zero f x t)

pub mul-zero : (f : Format) (x : Float) → T (finite_float x) → SameFloat (mul f x zero_float) zero_float
unfolding finite_float
mul-zero f nan t = absurd t
mul-zero f (inf s) t = absurd t
mul-zero f (fin s m e) t =
    let p = plus_part s (m * up e) in
    let l = minus_part s (m * up e) in
    same-trans (mul-diff f s m e false 0 (pos 0)) (zero-diff f (p * 0 + l * 0) (p * 0 + l * 0) (down e * 1) (mul-pos (down_pos e) (zero-lt-suc 0)) refl)

pub zero-mul : (f : Format) (x : Float) → T (finite_float x) → SameFloat (mul f zero_float x) zero_float
unfolding finite_float
zero-mul f nan t = absurd t
zero-mul f (inf s) t = absurd t
zero-mul f (fin s m e) t =
    let p = plus_part s (m * up e) in
    let l = minus_part s (m * up e) in
    same-trans (mul-diff f false 0 (pos 0) s m e) (zero-diff f (0 * p + 0 * l) (0 * l + 0 * p) (1 * down e) (mul-pos (zero-lt-suc 0) (down_pos e)) (omega arith))

pub mul-one : (f : Format) (x : Float) → T (fits f x) → T (finite_float x) → SameFloat (mul f x one_float) x
unfolding finite_float
mul-one f nan t u = absurd u
mul-one f (inf s) t u = absurd u
mul-one f (fin s m e) t u =
    let p = plus_part s (m * up e) in
    let l = minus_part s (m * up e) in
    let c = down e in
    same-trans (mul-diff f s m e false 1 (pos 0)) (held-diff f s m e (p * 1 + l * 0) (p * 0 + l * 1) (c * 1) t (mul-pos (down_pos e) (zero-lt-suc 0)) (omega arith))

pub one-mul : (f : Format) (x : Float) → T (fits f x) → T (finite_float x) → SameFloat (mul f one_float x) x
unfolding finite_float
one-mul f nan t u = absurd u
one-mul f (inf s) t u = absurd u
one-mul f (fin s m e) t u =
    let p = plus_part s (m * up e) in
    let l = minus_part s (m * up e) in
    let c = down e in
    same-trans (mul-diff f false 1 (pos 0) s m e) (held-diff f s m e (1 * p + 0 * l) (1 * l + 0 * p) (1 * c) t (mul-pos (zero-lt-suc 0) (down_pos e)) (omega arith))

-- ---- the difference

plus-not : (s : Bool) (a : ℕ) → plus_part (not s) a ≡ minus_part s a
plus-not false a = refl
plus-not true a = refl

less-not : (s : Bool) (a : ℕ) → minus_part (not s) a ≡ plus_part s a
less-not false a = refl
less-not true a = refl

sub-opens : (f : Format) (x : Float) (t : Bool) (n : ℕ) (d : ℤ) → sub f x (fin t n d) ≡ add f x (fin (not t) n d)
unfolding sub
sub-opens f x t n d = refl

-- (p − l) / c − (q − r) / d
pub sub-diff : (f : Format) (s : Bool) (m : ℕ) (e : ℤ) (t : Bool) (n : ℕ) (d : ℤ)
    → SameFloat (sub f (fin s m e) (fin t n d)) (plus_diff f (plus_part s (m * up e)) (minus_part s (m * up e)) (down e) (minus_part t (n * up d)) (plus_part t (n * up d)) (down d))
sub-diff f s m e t n d =
    same-trans (same-of-eq (sub-opens f (fin s m e) t n d))
    (same-trans (add-diff f s m e (not t) n d)
    (same-of-eq (λ i. plus_diff f (plus_part s (m * up e)) (minus_part s (m * up e)) (down e) (plus-not t (n * up d) i) (less-not t (n * up d) i) (down d))))

pub sub_self : (f : Format) (x : Float) → T (finite_float x) → SameFloat (sub f x x) zero_float
unfolding finite_float
sub_self f nan t = absurd t
sub_self f (inf s) t = absurd t
sub_self f (fin s m e) t =
    let p = plus_part s (m * up e) in
    let l = minus_part s (m * up e) in
    let c = down e in
    same-trans (sub-diff f s m e s m e) (zero-diff f (p * c + l * c) (l * c + p * c) (c * c) (mul-pos (down_pos e) (down_pos e)) (omega arith))

-- ---- gradual underflow

-- the sign has no part in rounding
odd-neg : (d : ℕ) (s : Bool) (q k l : ℕ) → neg (odd d s q k l) ≡ odd d (not s) q k l
unfolding neg odd
odd-neg d s zero k l = refl
odd-neg d s (suc q) k l = refl

units-neg : (f : Format) (s : Bool) (q k : ℕ) → neg (units f s q k) ≡ units f (not s) q k
unfolding neg units
units-neg f s q k = go (ltb (q * 2 ^ k) (2 ^ (low f + suc (emax f))))
  where
    go : (b : Bool) → neg (cond b (odd (suc (prec f)) s q k (low f)) (inf s)) ≡ cond b (odd (suc (prec f)) (not s) q k (low f)) (inf (not s))
    go true = odd-neg (suc (prec f)) s q k (low f)
    go false = refl

round-neg : (f : Format) (s : Bool) (a c : ℕ) → neg (round f s a c) ≡ round f (not s) a c
round-neg f s a c = ap neg (round_is f s a c) ∙ units-neg f s (kept (prec f) (a * 2 ^ low f) c) (drop (prec f) (a * 2 ^ low f) c) ∙ sym (round_is f (not s) a c)

above-not-zero : {z : Float} → T (above z) → SameFloat z zero_float → ⊥
above-not-zero t (both-fin false m e false zero (pos zero) h) = never (m * up e) (down e) (mul-pos (ltb→lt 0 m t) (up_pos e)) h
  where
    never : (a c : ℕ) → 0 < a → Frac a 0 c 0 0 1 → ⊥
    never a c q h = omega arith
above-not-zero t (both-fin true m e false zero (pos zero) h) = t

-- from the format's smallest value on nothing rounds to zero
positive-not-to-zero : (f : Format) (a c : ℕ) → 0 < c → c ≤ a * 2 ^ low f → SameFloat (round f false a c) zero_float → ⊥
positive-not-to-zero f a c C h k =
    let w = 2 ^ low f in
    let least = round f false 1 w in
    let P : 0 < prec f = two-le_pos (prec f) (two f) in
    let reach : 0 < low f + suc (emax f) = omega arith in
    let lo : T (positive least) = positive_of_value least 1 w (round_exact f false 1 w 1 0 (pow_pos (low f)) (pow-lt P) (pow-lt reach) refl) (zero-lt-suc 0) in
    above-not-zero (above_of_le least (round f false a c) lo (round_mono f 1 w a c (pow_pos (low f)) C (omega arith))) k

not-to-zero : (f : Format) (s : Bool) (a c : ℕ) → 0 < c → c ≤ a * 2 ^ low f → SameFloat (round f s a c) zero_float → ⊥
not-to-zero f false a c C h k = positive-not-to-zero f a c C h k
not-to-zero f true a c C h k = positive-not-to-zero f a c C h (same-trans (same-sym (same-of-eq (round-neg f true a c))) (same-trans (neg-cong k) neg-zero))

-- numbers that are whole multiples u · c and v · c of 1 / w: their difference is one too
at_least : (c w u v l k : ℕ) → 0 < suc k * w → (l + suc k) * w ≡ u * c → l * w ≡ v * c → c ≤ suc k * w
at_least c w u v l k q h g = go (gap u v) h g
  where
    go : {u v : ℕ} → Gap u v → (l + suc k) * w ≡ u * c → l * w ≡ v * c → c ≤ suc k * w
    go (over v zero) h g = absurd (omega arith)
    go (over v (suc j)) h g = omega arith
    go (under u j) h g = absurd (omega arith)

-- x / c and y / c are whole multiples of the smallest value, and their difference rounds to zero
zero-of-units : (f : Format) (x y c u v : ℕ) → 0 < c → x * 2 ^ low f ≡ u * c → y * 2 ^ low f ≡ v * c → SameFloat (diff f x y c) zero_float → x ≡ y
zero-of-units f x y c u v C = go (gap x y)
  where
    go : {x y : ℕ} → Gap x y → x * 2 ^ low f ≡ u * c → y * 2 ^ low f ≡ v * c → SameFloat (diff f x y c) zero_float → x ≡ y
    go (over y zero) h g z = omega arith
    go (over y (suc k)) h g z =
        absurd (not-to-zero f false (suc k) c C (at_least c (2 ^ low f) u v y k (mul-pos (zero-lt-suc k) (pow_pos (low f))) h g) (same-trans (same-of-eq (sym (diff_over f y (suc k) c))) z))
    go (under x k) h g z =
        absurd (not-to-zero f true (suc k) c C (at_least c (2 ^ low f) v u x k (mul-pos (zero-lt-suc k) (pow_pos (low f))) g h) (same-trans (same-of-eq (sym (diff_under f x k c))) z))

-- with w = i · c = j · d
in-units : (p c r d w i j : ℕ) → w ≡ i * c → w ≡ j * d → (p * d + r * c) * w ≡ (p * i + r * j) * (c * d)
in-units p c r d w i j h g = omega (arith, ap (λ (z : ℕ). p * d * z) h, ap (λ (z : ℕ). r * c * z) g)

sub-zero-fin : (f : Format) (s : Bool) (m : ℕ) (e : ℤ) (t : Bool) (n : ℕ) (d : ℤ) → T (fits f (fin s m e)) → T (fits f (fin t n d))
    → SameFloat (sub f (fin s m e) (fin t n d)) zero_float → SameFloat (fin s m e) (fin t n d)
sub-zero-fin f s m e t n d a b z =
    let p = plus_part s (m * up e) in
    let l = minus_part s (m * up e) in
    let q = plus_part t (n * up d) in
    let r = minus_part t (n * up d) in
    let i = divides (low f) e (parts f s m e a).fine in
    let j = divides (low f) d (parts f t n d b).fine in
    let h : p * down d + r * down e ≡ l * down d + q * down e =
    zero-of-units f (p * down d + r * down e) (l * down d + q * down e) (down e * down d) (p * i.0 + r * j.0) (l * i.0 + q * j.0) (mul-pos (down_pos e) (down_pos d))
    (in-units p (down e) r (down d) (2 ^ low f) i.0 j.0 i.1 j.1) (in-units l (down e) q (down d) (2 ^ low f) i.0 j.0 i.1 j.1)
    (same-trans (same-sym (sub-diff f s m e t n d)) z) in
    both-fin s m e t n d (omega arith)

nan-not-zero : SameFloat nan zero_float → ⊥
unfolding eq is_nan
nan-not-zero h = same→test h

inf-not-zero : (s : Bool) → SameFloat (inf s) zero_float → ⊥
unfolding eq is_nan
inf-not-zero s h = same→test h

pub sub-zero-same : (f : Format) (x y : Float) → T (fits f x) → T (fits f y) → SameFloat (sub f x y) zero_float → SameFloat x y
unfolding sub add neg
sub-zero-same f nan y a b z = absurd (nan-not-zero z)
sub-zero-same f (inf s) nan a b z = absurd (nan-not-zero z)
sub-zero-same f (inf s) (inf t) a b z = absurd (go (beq s (not t)) z)
  where
    go : (c : Bool) → SameFloat (cond c (inf s) nan) zero_float → ⊥
    go true z = inf-not-zero s z
    go false z = nan-not-zero z
sub-zero-same f (inf s) (fin t n d) a b z = absurd (inf-not-zero s z)
sub-zero-same f (fin s m e) nan a b z = absurd (nan-not-zero z)
sub-zero-same f (fin s m e) (inf t) a b z = absurd (inf-not-zero (not t) z)
sub-zero-same f (fin s m e) (fin t n d) a b z = sub-zero-fin f s m e t n d a b z
