-- An integer as the difference of two natural numbers: `Diff z a b` says that z is a − b. It carries a place from the integers of
-- its definition to natural numbers.
use mathlib.Core.Path.{◌≡◌, refl, ap}
use mathlib.Core.Bool.{Bool, true, false, cond}
use Prim.Native.Nat.{ℕ, zero, suc, ◌+◌, ◌-◌, ◌*◌, ◌≤◌, ◌<◌}
use native.Mathlib.Nat.{mul-zero}
use native.Mathlib.Omega.{arith}
use lib.Dec.{ltb}
use lib.IntN.{ℤ, pos, negsuc, neg_ℤ, nat_abs, sub_ℕ, ◌+ℤ◌, ◌*ℤ◌}
use lib.Signed.{mag}
use borrow.Author.Tests.{ltb-true, ltb-false}
use Rattle.view.specs.Steps.{up, down}

abbrev pub Gap : ℤ → ℕ → ℕ → Type 0
Gap (pos k) a b = a ≡ k + b
Gap (negsuc k) a b = b ≡ a + suc k

pub record Diff (z : ℤ) (a b : ℕ) : Type 0 where
  pub gap : Gap z a b

pub diff-pos : (n : ℕ) → Diff (pos n) n 0
diff-pos n = omega arith

pub diff-of : (a b : ℕ) → Diff (sub_ℕ a b) a b
diff-of a b = at (ltb a b) refl
  where
    at : (t : Bool) → ltb a b ≡ t → Diff (cond t (negsuc (b - suc a)) (pos (a - b))) a b
    at true e = omega (arith, ltb-true a b e)
    at false e = omega (arith, ltb-false a b e)

-- the same number as another difference
pub diff-as : (z : ℤ) {a b : ℕ} → Diff z a b → (c d : ℕ) → a + d ≡ c + b → Diff z c d
diff-as (pos k) h c d e = omega arith
diff-as (negsuc k) h c d e = omega arith

pub diff-add : (z w : ℤ) {a b c d : ℕ} → Diff z a b → Diff w c d → Diff (z +ℤ w) (a + c) (b + d)
diff-add (pos j) (pos k) h g = omega arith
diff-add (pos j) (negsuc k) {a} {b} {c} {d} h g = diff-as (sub_ℕ j (suc k)) (diff-of j (suc k)) (a + c) (b + d) (omega arith)
diff-add (negsuc j) (pos k) {a} {b} {c} {d} h g = diff-as (sub_ℕ k (suc j)) (diff-of k (suc j)) (a + c) (b + d) (omega arith)
diff-add (negsuc j) (negsuc k) h g = omega arith

diff-neg : (m : ℕ) → Diff (neg_ℤ (pos m)) 0 m
diff-neg zero = omega arith
diff-neg (suc m) = omega arith

-- k steps of a stride
pub diff-steps : (k : ℕ) (z : ℤ) → Diff (pos k *ℤ z) (k * up z) (k * down z)
diff-steps k (pos n) = omega (arith, mul-zero k)
diff-steps k (negsuc n) = diff-as (neg_ℤ (pos (k * suc n))) (diff-neg (k * suc n)) (k * 0) (k * suc n) (omega (arith, mul-zero k))

-- two integers with the same difference are equal, and only those
pub diff-same : (z w : ℤ) {a b c d : ℕ} → Diff z a b → Diff w c d → a + d ≡ c + b → z ≡ w
diff-same (pos j) (pos k) {a} {b} {c} {d} h g e = ap pos (at j k a b c d h.gap g.gap e)
  where
    at : (j k a b c d : ℕ) → a ≡ j + b → c ≡ k + d → a + d ≡ c + b → j ≡ k
    at j k a b c d h g e = omega arith
diff-same (pos j) (negsuc k) {a} {b} {c} {d} h g e = absurd (at j k a b c d h.gap g.gap e)
  where
    at : (j k a b c d : ℕ) → a ≡ j + b → d ≡ c + suc k → a + d ≡ c + b → ⊥
    at j k a b c d h g e = omega arith
diff-same (negsuc j) (pos k) {a} {b} {c} {d} h g e = absurd (at j k a b c d h.gap g.gap e)
  where
    at : (j k a b c d : ℕ) → b ≡ a + suc j → c ≡ k + d → a + d ≡ c + b → ⊥
    at j k a b c d h g e = omega arith
diff-same (negsuc j) (negsuc k) {a} {b} {c} {d} h g e = ap negsuc (at j k a b c d h.gap g.gap e)
  where
    at : (j k a b c d : ℕ) → b ≡ a + suc j → d ≡ c + suc k → a + d ≡ c + b → j ≡ k
    at j k a b c d h g e = omega arith

pub diff-one : (z : ℤ) {a b c d : ℕ} → Diff z a b → Diff z c d → a + d ≡ c + b
diff-one (pos k) h g = omega arith
diff-one (negsuc k) h g = omega arith

-- a difference that is not negative
pub diff-abs : (z : ℤ) {a b : ℕ} → Diff z a b → b ≤ a → nat_abs z + b ≡ a
diff-abs (pos k) h p = omega arith
diff-abs (negsuc k) {a} {b} h p = absurd (at k a b h.gap p)
  where
    at : (k a b : ℕ) → b ≡ a + suc k → b ≤ a → ⊥
    at k a b h p = omega arith

pub diff-nat : (z : ℤ) {a b : ℕ} → Diff z a b → b ≤ a → z ≡ pos (nat_abs z)
diff-nat (pos k) h p = refl
diff-nat (negsuc k) {a} {b} h p = absurd (at k a b h.gap p)
  where
    at : (k a b : ℕ) → b ≡ a + suc k → b ≤ a → ⊥
    at k a b h p = omega arith

-- a difference whose size is below a bound is one that a signed integer holds
pub diff-mag : (z : ℤ) {a b : ℕ} (h : ℕ) → Diff z a b → a < h + b → b ≤ a + h → mag z < h
diff-mag (pos k) h d p q = omega arith
diff-mag (negsuc k) h d p q = omega arith

-- a stride's size
pub size_is : (z : ℤ) → nat_abs z ≡ up z + down z
size_is (pos n) = omega arith
size_is (negsuc n) = omega arith
