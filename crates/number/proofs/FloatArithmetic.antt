-- Sums, differences and products of finite floats are each one rounding, `diff`, of the exact result, a fraction with a sign.
-- Equal fractions have one rounding, so the operations respect equality as numbers.
use mathlib.Core.Path.{◌≡◌, refl, sym, ap, ◌∙◌, subst}
use mathlib.Core.Bool.{Bool, true, false, not, beq, cond}
use Prim.Native.Nat.{ℕ, zero, suc, ◌+◌, ◌-◌, ◌*◌, ◌^◌, ◌≤◌, ◌<◌}
use native.Mathlib.Nat.{add-sub_of_le, mul-pos, zero-mul, zero-lt-suc}
use native.Mathlib.Omega.{arith}
use lib.Dec.{T, ltb, eqb, ltb→lt, nltb→le, eqb-suc-zero}
use lib.IntN.{ℤ}
use lib.Pow.{pow_pos}
use lib.Ieee.{Float, nan, inf, fin, Format, prec, emax, low, up, down, unlike, round, sum, add, sub, mul, neg}
use lib.Ieee.Exact.{HasValue, round_exact}
use lib.Ieee.Fits.{up_pos, down_pos}
use lib.Ieee.Scale.{round_same}
use Rattle.number.proofs.Same.{Frac, plus_part, minus_part, SameFinite, SameFloat, both-nan, both-inf, both-fin, same_refl, same-sym, same-trans, same-of-eq, frac-sym, frac-trans, frac→magnitudes, frac→signs}

-- ---- two numbers by their difference

pub data Gap : ℕ → ℕ → Type 0 where
  over : (l k : ℕ) → Gap (l + k) l
  under : (p k : ℕ) → Gap p (p + suc k)

pub gap : (p l : ℕ) → Gap p l
gap p l = go (ltb p l) (ltb→lt p l) (nltb→le p l)
  where
    less_by : (p l : ℕ) → p < l → p + suc (l - suc p) ≡ l
    less_by p l h = omega arith

    go : (b : Bool) → (T b → p < l) → (T (not b) → l ≤ p) → Gap p l
    go true h k = subst (λ (z : ℕ). Gap p z) (less_by p l (h tt)) (under p (l - suc p))
    go false h k = subst (λ (z : ℕ). Gap z l) (add-sub_of_le (k tt)) (over l (p - l))

-- ---- the rounding of (p − l) / c, where a zero is +0

unfoldable pub diff : Format → ℕ → ℕ → ℕ → Float
diff f p l c = cond (ltb p l) (round f true (l - p) c) (round f false (p - l) c)

pub diff_over : (f : Format) (l k c : ℕ) → diff f (l + k) l c ≡ round f false k c
unfolding diff
diff_over f l k c = go (ltb (l + k) l) (ltb→lt (l + k) l)
  where
    never : (l k : ℕ) → l + k < l → ⊥
    never l k h = omega arith

    rest : (l k : ℕ) → l + k - l ≡ k
    rest l k = omega arith

    go : (b : Bool) → (T b → l + k < l) → cond b (round f true (l - (l + k)) c) (round f false (l + k - l) c) ≡ round f false k c
    go true h = absurd (never l k (h tt))
    go false h = ap (λ (z : ℕ). round f false z c) (rest l k)

pub diff_under : (f : Format) (p k c : ℕ) → diff f p (p + suc k) c ≡ round f true (suc k) c
unfolding diff
diff_under f p k c = go (ltb p (p + suc k)) (nltb→le p (p + suc k))
  where
    never : (p k : ℕ) → p + suc k ≤ p → ⊥
    never p k h = omega arith

    rest : (p k : ℕ) → p + suc k - p ≡ suc k
    rest p k = omega arith

    go : (b : Bool) → (T (not b) → p + suc k ≤ p) → cond b (round f true (p + suc k - p) c) (round f false (p - (p + suc k)) c) ≡ round f true (suc k) c
    go true h = ap (λ (z : ℕ). round f true z c) (rest p k)
    go false h = absurd (never p k (h tt))

-- equal fractions have one rounding
pub diff-same : (f : Format) (p l c p' l' c' : ℕ) → 0 < c → 0 < c' → Frac p l c p' l' c' → diff f p l c ≡ diff f p' l' c'
diff-same f p l c p' l' c' C C' = go (gap p l) (gap p' l')
  where
    over-over : (l k l' k' : ℕ) → Frac (l + k) l c (l' + k') l' c' → k * c' ≡ k' * c
    over-over l k l' k' h = omega arith

    under-under : (p k p' k' : ℕ) → Frac p (p + suc k) c p' (p' + suc k') c' → suc k * c' ≡ suc k' * c
    under-under p k p' k' h = omega arith

    over-under : (l k p' k' : ℕ) → 0 < suc k' * c → Frac (l + k) l c p' (p' + suc k') c' → ⊥
    over-under l k p' k' q h = omega arith

    under-over : (p k l' k' : ℕ) → 0 < suc k * c' → Frac p (p + suc k) c (l' + k') l' c' → ⊥
    under-over p k l' k' q h = omega arith

    go : {p l p' l' : ℕ} → Gap p l → Gap p' l' → Frac p l c p' l' c' → diff f p l c ≡ diff f p' l' c'
    go (over l k) (over l' k') h = diff_over f l k c ∙ round_same f false k c k' c' C C' (over-over l k l' k' h) ∙ sym (diff_over f l' k' c')
    go (over l k) (under p' k') h = absurd (over-under l k p' k' (mul-pos (zero-lt-suc k') C) h)
    go (under p k) (over l' k') h = absurd (under-over p k l' k' (mul-pos (zero-lt-suc k) C') h)
    go (under p k) (under p' k') h = diff_under f p k c ∙ round_same f true (suc k) c (suc k') c' C C' (under-under p k p' k' h) ∙ sym (diff_under f p' k' c')

-- ---- x is finite and is (p − l) / c

abbrev pub Value : Float → ℕ → ℕ → ℕ → Type 0
Value nan p l c = ⊥
Value (inf s) p l c = ⊥
Value (fin s m e) p l c = Frac (plus_part s (m * up e)) (minus_part s (m * up e)) (down e) p l c

pub value_same : (x y : Float) (p l c : ℕ) → 0 < c → Value x p l c → Value y p l c → SameFloat x y
value_same nan y p l c C h k = absurd h
value_same (inf s) y p l c C h k = absurd h
value_same (fin s m e) nan p l c C h k = absurd k
value_same (fin s m e) (inf t) p l c C h k = absurd k
value_same (fin s m e) (fin t n d) p l c C h k =
    let a = m * up e in
    let b = n * up d in
    both-fin s m e t n d (frac-trans (plus_part s a) (minus_part s a) (down e) p l c (plus_part t b) (minus_part t b) (down d) C h (frac-sym (plus_part t b) (minus_part t b) (down d) p l c k))

pub value_of : (x : Float) (s : Bool) (a c : ℕ) → HasValue x s a c → Value x (plus_part s a) (minus_part s a) c
value_of nan s a c h = absurd h
value_of (inf t) s a c h = absurd h
value_of (fin t m e) s a c h = subst (λ (z : Bool). Value (fin z m e) (plus_part s a) (minus_part s a) c) (sym h.0) (go s (m * up e) (down e) h.1)
  where
    go : (s : Bool) (b d : ℕ) → b * c ≡ a * d → Frac (plus_part s b) (minus_part s b) d (plus_part s a) (minus_part s a) c
    go false b d k = omega arith
    go true b d k = omega arith

-- ---- a rounding with either sign is a `diff`; at zero the signs differ, and the numbers are equal

zero-value : (f : Format) (s : Bool) (c : ℕ) → 0 < c → HasValue (round f s 0 c) s 0 c
zero-value f s c C = round_exact f s 0 c 0 0 C (pow_pos (prec f)) (pow_pos (low f + suc (emax f))) (zero-mul (2 ^ low f) ∙ sym (zero-mul c))

zero-sign : (f : Format) (c : ℕ) → 0 < c → SameFloat (round f true 0 c) (round f false 0 c)
zero-sign f c C = value_same (round f true 0 c) (round f false 0 c) 0 0 c C (value_of (round f true 0 c) true 0 c (zero-value f true c C)) (value_of (round f false 0 c) false 0 c (zero-value f false c C))

-- p = l + k
round-plus : (f : Format) (p l k c : ℕ) → p ≡ l + k → SameFloat (round f false k c) (diff f p l c)
round-plus f p l k c h = same-of-eq (sym (diff_over f l k c) ∙ ap (λ (z : ℕ). diff f z l c) (sym h))

-- l = p + k
round-minus : (f : Format) (p l k c : ℕ) → 0 < c → l ≡ p + k → SameFloat (round f true k c) (diff f p l c)
round-minus f p l zero c C h = same-trans (zero-sign f c C) (round-plus f p l 0 c (omega arith))
round-minus f p l (suc k) c C h = same-of-eq (sym (diff_under f p k c) ∙ ap (λ (z : ℕ). diff f p z c) (sym h))

pub round-diff : (f : Format) (s : Bool) (a c : ℕ) → 0 < c → SameFloat (round f s a c) (diff f (plus_part s a) (minus_part s a) c)
round-diff f false a c C = round-plus f a 0 a c (omega arith)
round-diff f true a c C = round-minus f 0 a a c C (omega arith)

-- ---- the sum

sum-diff : (f : Format) (s : Bool) (a : ℕ) (t : Bool) (b c : ℕ) → 0 < c → SameFloat (sum f s a t b c) (diff f (plus_part s a + plus_part t b) (minus_part s a + minus_part t b) c)
unfolding sum
sum-diff f false a false b c C = round-plus f (a + b) (0 + 0) (a + b) c (omega arith)
sum-diff f true a true b c C = round-minus f (0 + 0) (a + b) (a + b) c C (omega arith)
sum-diff f false a true b c C = go (ltb a b) (ltb→lt a b) (nltb→le a b)
  where
    go : (x : Bool) → (T x → a < b) → (T (not x) → b ≤ a) → SameFloat (cond x (round f true (b - a) c) (round f false (a - b) c)) (diff f (a + 0) (0 + b) c)
    go true h k = round-minus f (a + 0) (0 + b) (b - a) c C (omega (arith, h tt))
    go false h k = round-plus f (a + 0) (0 + b) (a - b) c (omega (arith, k tt))
sum-diff f true a false b c C = go (ltb a b) (ltb→lt a b) (nltb→le a b) (ltb b a) (ltb→lt b a) (nltb→le b a)
  where
    go : (x : Bool) → (T x → a < b) → (T (not x) → b ≤ a) → (y : Bool) → (T y → b < a) → (T (not y) → a ≤ b)
        → SameFloat (cond x (round f false (b - a) c) (round f y (a - b) c)) (diff f (0 + b) (a + 0) c)
    go true h k y h' k' = round-plus f (0 + b) (a + 0) (b - a) c (omega (arith, h tt))
    go false h k true h' k' = round-minus f (0 + b) (a + 0) (a - b) c C (omega (arith, k tt))
    go false h k false h' k' = round-plus f (0 + b) (a + 0) (a - b) c (omega (arith, k tt, k' tt))

plus-mul : (s : Bool) (a c : ℕ) → plus_part s (a * c) ≡ plus_part s a * c
plus-mul false a c = refl
plus-mul true a c = omega arith

less-mul : (s : Bool) (a c : ℕ) → minus_part s (a * c) ≡ minus_part s a * c
less-mul false a c = omega arith
less-mul true a c = refl

-- (p − l) / c + (q − r) / d
abbrev pub plus_diff : Format → ℕ → ℕ → ℕ → ℕ → ℕ → ℕ → Float
plus_diff f p l c q r d = diff f (p * d + q * c) (l * d + r * c) (c * d)

add-opens : (f : Format) (s : Bool) (m : ℕ) (e : ℤ) (t : Bool) (n : ℕ) (d : ℤ)
    → add f (fin s m e) (fin t n d) ≡ sum f s (m * up e * down d) t (n * up d * down e) (down e * down d)
unfolding add
add-opens f s m e t n d = refl

pub add-diff : (f : Format) (s : Bool) (m : ℕ) (e : ℤ) (t : Bool) (n : ℕ) (d : ℤ)
    → SameFloat (add f (fin s m e) (fin t n d)) (plus_diff f (plus_part s (m * up e)) (minus_part s (m * up e)) (down e) (plus_part t (n * up d)) (minus_part t (n * up d)) (down d))
add-diff f s m e t n d =
    let a = m * up e in
    let b = n * up d in
    same-trans (same-of-eq (add-opens f s m e t n d))
    (same-trans (sum-diff f s (a * down d) t (b * down e) (down e * down d) (mul-pos (down_pos e) (down_pos d)))
    (same-of-eq (λ i. diff f (plus-mul s a (down d) i + plus-mul t b (down e) i) (less-mul s a (down d) i + less-mul t b (down e) i) (down e * down d))))

add_left : (p l c p' l' c' q r d : ℕ) → Frac p l c p' l' c' → Frac (p * d + q * c) (l * d + r * c) (c * d) (p' * d + q * c') (l' * d + r * c') (c' * d)
add_left p l c p' l' c' q r d h = omega (arith, ap (λ (z : ℕ). z * (d * d)) h)

add_right : (p l c q r d q' r' d' : ℕ) → Frac q r d q' r' d' → Frac (p * d + q * c) (l * d + r * c) (c * d) (p * d' + q' * c) (l * d' + r' * c) (c * d')
add_right p l c q r d q' r' d' h = omega (arith, ap (λ (z : ℕ). z * (c * c)) h)

pub plus_diff-same : (f : Format) (p l c p' l' c' q r d q' r' d' : ℕ) → 0 < c → 0 < c' → 0 < d → 0 < d'
    → Frac p l c p' l' c' → Frac q r d q' r' d' → plus_diff f p l c q r d ≡ plus_diff f p' l' c' q' r' d'
plus_diff-same f p l c p' l' c' q r d q' r' d' C C' D D' h k =
    diff-same f (p * d + q * c) (l * d + r * c) (c * d) (p' * d + q * c') (l' * d + r * c') (c' * d) (mul-pos C D) (mul-pos C' D) (add_left p l c p' l' c' q r d h)
    ∙ diff-same f (p' * d + q * c') (l' * d + r * c') (c' * d) (p' * d' + q' * c') (l' * d' + r' * c') (c' * d') (mul-pos C' D) (mul-pos C' D') (add_right p' l' c' q r d q' r' d' k)

add-fin : (f : Format) (s : Bool) (m : ℕ) (e : ℤ) (s' : Bool) (m' : ℕ) (e' : ℤ) (t : Bool) (n : ℕ) (d : ℤ) (t' : Bool) (n' : ℕ) (d' : ℤ)
    → SameFinite s m e s' m' e' → SameFinite t n d t' n' d' → SameFloat (add f (fin s m e) (fin t n d)) (add f (fin s' m' e') (fin t' n' d'))
add-fin f s m e s' m' e' t n d t' n' d' h k =
    let a = m * up e in
    let b = n * up d in
    let a' = m' * up e' in
    let b' = n' * up d' in
    same-trans (add-diff f s m e t n d)
    (same-trans (same-of-eq
    (plus_diff-same f (plus_part s a) (minus_part s a) (down e) (plus_part s' a') (minus_part s' a') (down e') (plus_part t b) (minus_part t b) (down d) (plus_part t' b') (minus_part t' b') (down d')
    (down_pos e) (down_pos e') (down_pos d) (down_pos d') h k))
    (same-sym (add-diff f s' m' e' t' n' d')))

pub add_cong : (f : Format) {x x' y y' : Float} → SameFloat x x' → SameFloat y y' → SameFloat (add f x y) (add f x' y')
unfolding add
add_cong f both-nan q = both-nan
add_cong f (both-inf s) both-nan = both-nan
add_cong f (both-inf s) (both-inf t) = same_refl (cond (beq s t) (inf s) nan)
add_cong f (both-inf s) (both-fin t n d t' n' d' k) = both-inf s
add_cong f (both-fin s m e s' m' e' h) both-nan = both-nan
add_cong f (both-fin s m e s' m' e' h) (both-inf t) = both-inf t
add_cong f (both-fin s m e s' m' e' h) (both-fin t n d t' n' d' k) = add-fin f s m e s' m' e' t n d t' n' d' h k

-- ---- the negation, and so the difference

pub neg-cong : {x x' : Float} → SameFloat x x' → SameFloat (neg x) (neg x')
unfolding neg
neg-cong both-nan = both-nan
neg-cong (both-inf s) = both-inf (not s)
neg-cong (both-fin s m e t n d h) = both-fin (not s) m e (not t) n d (go s t (m * up e) (n * up d) (down e) (down d) h)
  where
    go : (s t : Bool) (a b c d : ℕ) → Frac (plus_part s a) (minus_part s a) c (plus_part t b) (minus_part t b) d → Frac (plus_part (not s) a) (minus_part (not s) a) c (plus_part (not t) b) (minus_part (not t) b) d
    go false false a b c d h = omega arith
    go false true a b c d h = omega arith
    go true false a b c d h = omega arith
    go true true a b c d h = omega arith

pub sub-cong : (f : Format) {x x' y y' : Float} → SameFloat x x' → SameFloat y y' → SameFloat (sub f x y) (sub f x' y')
unfolding sub
sub-cong f p q = add_cong f p (neg-cong q)

-- ---- the product

-- ((p − l) / c) · ((q − r) / d)
abbrev pub times_diff : Format → ℕ → ℕ → ℕ → ℕ → ℕ → ℕ → Float
times_diff f p l c q r d = diff f (p * q + l * r) (p * r + l * q) (c * d)

mul-opens : (f : Format) (s : Bool) (m : ℕ) (e : ℤ) (t : Bool) (n : ℕ) (d : ℤ)
    → mul f (fin s m e) (fin t n d) ≡ round f (unlike s t) (m * up e * (n * up d)) (down e * down d)
unfolding mul
mul-opens f s m e t n d = refl

plus-unlike : (s t : Bool) (a b : ℕ) → plus_part (unlike s t) (a * b) ≡ plus_part s a * plus_part t b + minus_part s a * minus_part t b
plus-unlike false false a b = omega arith
plus-unlike false true a b = omega arith
plus-unlike true false a b = omega arith
plus-unlike true true a b = omega arith

less-unlike : (s t : Bool) (a b : ℕ) → minus_part (unlike s t) (a * b) ≡ plus_part s a * minus_part t b + minus_part s a * plus_part t b
less-unlike false false a b = omega arith
less-unlike false true a b = omega arith
less-unlike true false a b = omega arith
less-unlike true true a b = omega arith

pub mul-diff : (f : Format) (s : Bool) (m : ℕ) (e : ℤ) (t : Bool) (n : ℕ) (d : ℤ)
    → SameFloat (mul f (fin s m e) (fin t n d)) (times_diff f (plus_part s (m * up e)) (minus_part s (m * up e)) (down e) (plus_part t (n * up d)) (minus_part t (n * up d)) (down d))
mul-diff f s m e t n d =
    let a = m * up e in
    let b = n * up d in
    same-trans (same-of-eq (mul-opens f s m e t n d))
    (same-trans (round-diff f (unlike s t) (a * b) (down e * down d) (mul-pos (down_pos e) (down_pos d)))
    (same-of-eq (λ i. diff f (plus-unlike s t a b i) (less-unlike s t a b i) (down e * down d))))

mul_left : (p l c p' l' c' q r d : ℕ) → Frac p l c p' l' c' → Frac (p * q + l * r) (p * r + l * q) (c * d) (p' * q + l' * r) (p' * r + l' * q) (c' * d)
mul_left p l c p' l' c' q r d h = omega (arith, ap (λ (z : ℕ). z * (q * d)) h, ap (λ (z : ℕ). z * (r * d)) h)

mul_right : (p l c q r d q' r' d' : ℕ) → Frac q r d q' r' d' → Frac (p * q + l * r) (p * r + l * q) (c * d) (p * q' + l * r') (p * r' + l * q') (c * d')
mul_right p l c q r d q' r' d' h = omega (arith, ap (λ (z : ℕ). z * (p * c)) h, ap (λ (z : ℕ). z * (l * c)) h)

pub times_diff-same : (f : Format) (p l c p' l' c' q r d q' r' d' : ℕ) → 0 < c → 0 < c' → 0 < d → 0 < d'
    → Frac p l c p' l' c' → Frac q r d q' r' d' → times_diff f p l c q r d ≡ times_diff f p' l' c' q' r' d'
times_diff-same f p l c p' l' c' q r d q' r' d' C C' D D' h k =
    diff-same f (p * q + l * r) (p * r + l * q) (c * d) (p' * q + l' * r) (p' * r + l' * q) (c' * d) (mul-pos C D) (mul-pos C' D) (mul_left p l c p' l' c' q r d h)
    ∙ diff-same f (p' * q + l' * r) (p' * r + l' * q) (c' * d) (p' * q' + l' * r') (p' * r' + l' * q') (c' * d') (mul-pos C' D) (mul-pos C' D') (mul_right p' l' c' q r d q' r' d' k)

mul-fin : (f : Format) (s : Bool) (m : ℕ) (e : ℤ) (s' : Bool) (m' : ℕ) (e' : ℤ) (t : Bool) (n : ℕ) (d : ℤ) (t' : Bool) (n' : ℕ) (d' : ℤ)
    → SameFinite s m e s' m' e' → SameFinite t n d t' n' d' → SameFloat (mul f (fin s m e) (fin t n d)) (mul f (fin s' m' e') (fin t' n' d'))
mul-fin f s m e s' m' e' t n d t' n' d' h k =
    let a = m * up e in
    let b = n * up d in
    let a' = m' * up e' in
    let b' = n' * up d' in
    same-trans (mul-diff f s m e t n d)
    (same-trans (same-of-eq
    (times_diff-same f (plus_part s a) (minus_part s a) (down e) (plus_part s' a') (minus_part s' a') (down e') (plus_part t b) (minus_part t b) (down d) (plus_part t' b') (minus_part t' b') (down d')
    (down_pos e) (down_pos e') (down_pos d) (down_pos d') h k))
    (same-sym (mul-diff f s' m' e' t' n' d')))

never-zero : (u v w : ℕ) → 0 < w → 0 * u * v ≡ w → ⊥
never-zero u v w q k = omega arith

-- equal numbers are zero together, and where they are not zero they have one sign
zero-or-sign : (P : Bool → Float) (s : Bool) (m : ℕ) (e : ℤ) (t : Bool) (n : ℕ) (d : ℤ)
    → SameFinite s m e t n d → SameFloat (cond (eqb m 0) nan (P s)) (cond (eqb n 0) nan (P t))
zero-or-sign P s zero e t zero d h = both-nan
zero-or-sign P s zero e t (suc n) d h =
    absurd (never-zero (up e) (down d) (suc n * up d * down e) (mul-pos (mul-pos (zero-lt-suc n) (up_pos d)) (down_pos e)) (frac→magnitudes s t (0 * up e) (suc n * up d) (down e) (down d) h))
zero-or-sign P s (suc m) e t zero d h =
    absurd (never-zero (up d) (down e) (suc m * up e * down d) (mul-pos (mul-pos (zero-lt-suc m) (up_pos e)) (down_pos d)) (sym (frac→magnitudes s t (suc m * up e) (0 * up d) (down e) (down d) h)))
zero-or-sign P s (suc m) e t (suc n) d h =
    rw (eqb-suc-zero m, eqb-suc-zero n)
    (same-of-eq (ap P (frac→signs s t (suc m * up e) (suc n * up d) (down e) (down d) (mul-pos (mul-pos (zero-lt-suc m) (up_pos e)) (down_pos d)) h)))

pub mul-cong : (f : Format) {x x' y y' : Float} → SameFloat x x' → SameFloat y y' → SameFloat (mul f x y) (mul f x' y')
unfolding mul
mul-cong f both-nan q = both-nan
mul-cong f (both-inf s) both-nan = both-nan
mul-cong f (both-inf s) (both-inf t) = both-inf (unlike s t)
mul-cong f (both-inf s) (both-fin t n d t' n' d' k) = zero-or-sign (λ z. inf (unlike s z)) t n d t' n' d' k
mul-cong f (both-fin s m e s' m' e' h) both-nan = both-nan
mul-cong f (both-fin s m e s' m' e' h) (both-inf t) = zero-or-sign (λ z. inf (unlike z t)) s m e s' m' e' h
mul-cong f (both-fin s m e s' m' e' h) (both-fin t n d t' n' d' k) = mul-fin f s m e s' m' e' t n d t' n' d' h k
