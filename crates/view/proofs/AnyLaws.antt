-- Laws of `any`: what is found below a bound, and what is not.
use mathlib.Core.Path.{◌≡◌, refl, sym, ◌∙◌, ap}
use mathlib.Core.Bool.{Bool, true, false, ◌&&◌, ◌||◌, false≢true, true≢false}
use Prim.Native.Nat.{ℕ, zero, suc, ◌<◌}
use native.Mathlib.Decide.{ℕ_discrete}
use native.Mathlib.Omega.{arith}
use Rattle.view.specs.Any.{any}

-- ---- Bool

pub or_left : (b : Bool) {a : Bool} → a ≡ true → (a || b) ≡ true
or_left b h = ap (λ x. x || b) h

pub or_right : (a : Bool) {b : Bool} → b ≡ true → (a || b) ≡ true
or_right true h = refl
or_right false h = h

pub or-false-left : (a b : Bool) → (a || b) ≡ false → a ≡ false
or-false-left true b h = h
or-false-left false b h = refl

pub or-false-right : (a b : Bool) → (a || b) ≡ false → b ≡ false
or-false-right true b h = absurd (true≢false h)
or-false-right false b h = h

pub or-none : (a b : Bool) → a ≡ false → b ≡ false → (a || b) ≡ false
or-none true b p q = p
or-none false b p q = q

pub and_left : (a b : Bool) → (a && b) ≡ true → a ≡ true
and_left true b h = refl
and_left false b h = h

pub and_right : (a b : Bool) → (a && b) ≡ true → b ≡ true
and_right true b h = h
and_right false b h = absurd (false≢true h)

pub and_both : (a b : Bool) → a ≡ true → b ≡ true → (a && b) ≡ true
and_both true b p q = q
and_both false b p q = p

pub and-no-left : (a b : Bool) → a ≡ false → (a && b) ≡ false
and-no-left true b p = absurd (true≢false p)
and-no-left false b p = refl

-- a test is false where it cannot be true
pub is_false : (b : Bool) → (b ≡ true → ⊥) → b ≡ false
is_false true f = absurd (f refl)
is_false false f = refl

pub is_true : (b : Bool) → (b ≡ false → ⊥) → b ≡ true
is_true true f = refl
is_true false f = absurd (f refl)

pub clash : {b : Bool} → b ≡ true → b ≡ false → ⊥
clash p q = true≢false (sym p ∙ q)

-- two tests are equal where each gives the other
pub both_ways : (a b : Bool) → (a ≡ true → b ≡ true) → (b ≡ true → a ≡ true) → a ≡ b
both_ways true b f g = sym (f refl)
both_ways false true f g = g refl
both_ways false false f g = refl

-- ---- any

below_suc : (k n : ℕ) → k < suc n → (k ≡ n → ⊥) → k < n
below_suc k n h ne = omega arith

pub found : (n : ℕ) (f : ℕ → Bool) (k : ℕ) → k < n → f k ≡ true → any n f ≡ true
unfolding any
found zero f k h e = absurd (none k h)
  where
    none : (k : ℕ) → k < zero → ⊥
    none k h = omega arith
found (suc n) f k h e = at (ℕ_discrete k n) (λ p. found n f k p e)
  where
    at : Dec (k ≡ n) → (k < n → any n f ≡ true) → any (suc n) f ≡ true
    at (yes p) later = or_left (any n f) (ap f (sym p) ∙ e)
    at (no p) later = or_right (f n) (later (below_suc k n h p))

pub finds : (n : ℕ) (f : ℕ → Bool) → any n f ≡ true → (k : ℕ) × (k < n) × (f k ≡ true)
unfolding any
finds zero f h = absurd (false≢true h)
finds (suc n) f h = at (f n) refl h (finds n f)
  where
    grow : (k : ℕ) → k < n → k < suc n
    grow k p = omega arith

    top : (n : ℕ) → n < suc n
    top n = omega arith

    at : (b : Bool) → f n ≡ b → (b || any n f) ≡ true → (any n f ≡ true → (k : ℕ) × (k < n) × (f k ≡ true)) → (k : ℕ) × (k < suc n) × (f k ≡ true)
    at true e t r = (n, top n, e)
    at false e t r = let w = r t in (w.0, grow w.0 w.1, w.2)

pub none-at : (n : ℕ) (f : ℕ → Bool) → any n f ≡ false → (k : ℕ) → k < n → f k ≡ false
none-at n f h k p = is_false (f k) (λ e. clash (found n f k p e) h)

pub none : (n : ℕ) (f : ℕ → Bool) → ((k : ℕ) → k < n → f k ≡ false) → any n f ≡ false
none n f h = is_false (any n f) (λ t. let w = finds n f t in clash w.2 (h w.0 w.1))

-- ---- over two numbers

pub found₂ : (m n : ℕ) (f : ℕ → ℕ → Bool) (j k : ℕ) → j < m → k < n → f j k ≡ true → any m (λ a. any n (λ b. f a b)) ≡ true
found₂ m n f j k p q e = found m (λ a. any n (λ b. f a b)) j p (found n (λ b. f j b) k q e)

pub finds₂ : (m n : ℕ) (f : ℕ → ℕ → Bool) → any m (λ a. any n (λ b. f a b)) ≡ true → (j : ℕ) × (k : ℕ) × (j < m) × (k < n) × (f j k ≡ true)
finds₂ m n f h =
    let w = finds m (λ a. any n (λ b. f a b)) h in
    let u = finds n (λ b. f w.0 b) w.2 in
    (w.0, u.0, w.1, u.1, u.2)
