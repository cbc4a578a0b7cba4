-- Equality as numbers, of floats: a finite float as a fraction with a sign, (plus − less) / den over ℕ, and `SameFloat`, which has one
-- constructor for each way to be equal. That it is the test `same_float` of the kinds, and that it is an equivalence.
use mathlib.Core.Path.{◌≡◌, refl, ap, subst}
use mathlib.Core.Bool.{Bool, true, false, ◌||◌, beq}
use Prim.Native.Nat.{ℕ, ◌+◌, ◌*◌, ◌<◌}
use native.Mathlib.Nat.{eq_of_mul-eq-mul_right}
use native.Mathlib.Omega.{arith}
use lib.Dec.{T, eqb, eqb→eq}
use lib.IntN.{ℤ}
use lib.Ieee.{Float, nan, inf, fin, up, down, level, eq, is_nan}
use lib.Ieee.Fits.{eq→eqb, down_pos, and_i, and_l, and_r}
use Rattle.number.specs.Kind.{same_float}

-- ---- fractions with a sign

-- (p − l) / c and (p' − l') / c' are one number
abbrev pub Frac : ℕ → ℕ → ℕ → ℕ → ℕ → ℕ → Type 0
Frac p l c p' l' c' = p * c' + l' * c ≡ p' * c + l * c'

pub frac-sym : (p l c p' l' c' : ℕ) → Frac p l c p' l' c' → Frac p' l' c' p l c
frac-sym p l c p' l' c' h = omega arith

pub frac-trans : (p l c p' l' c' p'' l'' c'' : ℕ) → 0 < c' → Frac p l c p' l' c' → Frac p' l' c' p'' l'' c'' → Frac p l c p'' l'' c''
frac-trans p l c p' l' c' p'' l'' c'' C' h k =
    eq_of_mul-eq-mul_right c' C' (p * c'' + l'' * c) (p'' * c + l * c'')
    (omega (arith, ap (λ (z : ℕ). z * c'') h, ap (λ (z : ℕ). z * c) k))

-- a magnitude with its sign is plus − less
abbrev pub plus_part : Bool → ℕ → ℕ
plus_part false a = a
plus_part true a = 0

abbrev pub minus_part : Bool → ℕ → ℕ
minus_part false a = 0
minus_part true a = a

-- ---- the three ways to be equal

-- the finite floats ±m · 2 ^ e and ±n · 2 ^ d are one number
abbrev pub SameFinite : Bool → ℕ → ℤ → Bool → ℕ → ℤ → Type 0
SameFinite s m e t n d = Frac (plus_part s (m * up e)) (minus_part s (m * up e)) (down e) (plus_part t (n * up d)) (minus_part t (n * up d)) (down d)

pub data SameFloat : Float → Float → Type 0 where
  both-nan : SameFloat nan nan
  both-inf : (s : Bool) → SameFloat (inf s) (inf s)
  both-fin : (s : Bool) (m : ℕ) (e : ℤ) (t : Bool) (n : ℕ) (d : ℤ)
      → SameFinite s m e t n d → SameFloat (fin s m e) (fin t n d)

pub same_refl : (x : Float) → SameFloat x x
same_refl nan = both-nan
same_refl (inf s) = both-inf s
same_refl (fin s m e) = both-fin s m e s m e refl

pub same-sym : {x y : Float} → SameFloat x y → SameFloat y x
same-sym both-nan = both-nan
same-sym (both-inf s) = both-inf s
same-sym (both-fin s m e t n d h) = both-fin t n d s m e (frac-sym (plus_part s (m * up e)) (minus_part s (m * up e)) (down e) (plus_part t (n * up d)) (minus_part t (n * up d)) (down d) h)

pub same-trans : {x y z : Float} → SameFloat x y → SameFloat y z → SameFloat x z
same-trans both-nan both-nan = both-nan
same-trans (both-inf s) (both-inf t) = both-inf s
same-trans (both-fin s m e t n d h) (both-fin t' n' d' u k g h') =
    both-fin s m e u k g (frac-trans (plus_part s (m * up e)) (minus_part s (m * up e)) (down e) (plus_part t (n * up d)) (minus_part t (n * up d)) (down d) (plus_part u (k * up g)) (minus_part u (k * up g)) (down g) (down_pos d) h h')

pub same-of-eq : {x y : Float} → x ≡ y → SameFloat x y
same-of-eq {x} p = subst (λ (z : Float). SameFloat x z) p (same_refl x)

-- ---- `level`, the comparison of two magnitudes with their signs

level→frac : (s t : Bool) (a b c d : ℕ) → T (level s (a * d) t (b * c)) → Frac (plus_part s a) (minus_part s a) c (plus_part t b) (minus_part t b) d
level→frac s t a b c d h = go s t (eqb→eq (a * d) (b * c) (and_l (eqb (a * d) (b * c)) (beq s t || eqb (a * d) 0) h)) (and_r (eqb (a * d) (b * c)) (beq s t || eqb (a * d) 0) h)
  where
    go : (s t : Bool) → a * d ≡ b * c → T (beq s t || eqb (a * d) 0) → Frac (plus_part s a) (minus_part s a) c (plus_part t b) (minus_part t b) d
    go false false p q = omega arith
    go false true p q = omega (arith, eqb→eq (a * d) 0 q)
    go true false p q = omega (arith, eqb→eq (a * d) 0 q)
    go true true p q = omega arith

pub frac→magnitudes : (s t : Bool) (a b c d : ℕ) → Frac (plus_part s a) (minus_part s a) c (plus_part t b) (minus_part t b) d → a * d ≡ b * c
frac→magnitudes false false a b c d h = omega arith
frac→magnitudes false true a b c d h = omega arith
frac→magnitudes true false a b c d h = omega arith
frac→magnitudes true true a b c d h = omega arith

-- numbers that are not zero have one sign
pub frac→signs : (s t : Bool) (a b c d : ℕ) → 0 < a * d → Frac (plus_part s a) (minus_part s a) c (plus_part t b) (minus_part t b) d → s ≡ t
frac→signs false false a b c d q h = refl
frac→signs false true a b c d q h = absurd (omega arith)
frac→signs true false a b c d q h = absurd (omega arith)
frac→signs true true a b c d q h = refl

frac→level : (s t : Bool) (a b c d : ℕ) → Frac (plus_part s a) (minus_part s a) c (plus_part t b) (minus_part t b) d → T (level s (a * d) t (b * c))
frac→level s t a b c d h = and_i (eqb (a * d) (b * c)) (beq s t || eqb (a * d) 0) (eq→eqb (frac→magnitudes s t a b c d h)) (go s t h)
  where
    zero_of : (x y : ℕ) → x + y ≡ 0 → x ≡ 0
    zero_of x y h = omega arith

    go : (s t : Bool) → Frac (plus_part s a) (minus_part s a) c (plus_part t b) (minus_part t b) d → T (beq s t || eqb (a * d) 0)
    go false false h = tt
    go false true h = eq→eqb (zero_of (a * d) (b * c) (omega arith))
    go true false h = eq→eqb (zero_of (a * d) (b * c) (omega arith))
    go true true h = tt

-- ---- the test

or-false : (b : Bool) → T (b || false) → T b
or-false true t = tt
or-false false t = t

false-or : (b : Bool) → T b → T (b || false)
false-or true t = tt
false-or false t = t

pub test→same : (x y : Float) → T (same_float x y) → SameFloat x y
unfolding eq is_nan
test→same nan nan t = both-nan
test→same nan (inf s) t = absurd t
test→same nan (fin s m e) t = absurd t
test→same (inf s) nan t = absurd t
test→same (inf true) (inf true) t = both-inf true
test→same (inf false) (inf false) t = both-inf false
test→same (inf true) (inf false) t = absurd t
test→same (inf false) (inf true) t = absurd t
test→same (inf s) (fin u m e) t = absurd t
test→same (fin s m e) nan t = absurd t
test→same (fin s m e) (inf u) t = absurd t
test→same (fin s m e) (fin u n d) t = both-fin s m e u n d (level→frac s u (m * up e) (n * up d) (down e) (down d) (or-false (level s (m * up e * down d) u (n * up d * down e)) t))

pub same→test : {x y : Float} → SameFloat x y → T (same_float x y)
unfolding eq is_nan
same→test both-nan = tt
same→test (both-inf true) = tt
same→test (both-inf false) = tt
same→test (both-fin s m e t n d h) = false-or (level s (m * up e * down d) t (n * up d * down e)) (frac→level s t (m * up e) (n * up d) (down e) (down d) h)
