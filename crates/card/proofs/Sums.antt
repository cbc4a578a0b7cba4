-- Laws of `total` and `list_of`. Assumes nothing.
use mathlib.Core.Path.{◌≡◌, refl, ap}
use Prim.Native.Nat.{ℕ, zero, suc, ◌+◌, ◌<◌}
use native.Mathlib.Nat.{not-suc-le-zero, le_of_suc-le-suc}
use native.Mathlib.Omega.{arith}
use lib.ListN.{length, get_or}
use Rattle.card.specs.Layout.{total, list_of}

up : (j m : ℕ) → j < m → j < suc m
up j m h = omega arith

top : (m : ℕ) → m < suc m
top m = omega arith

pub total-cong : (n : ℕ) (f g : ℕ → ℕ) → ((j : ℕ) → j < n → f j ≡ g j) → total n f ≡ total n g
unfolding total
total-cong zero f g h = refl
total-cong (suc n) f g h = λ i. total-cong n f g (λ j p. h j (up j n p)) i + h n (top n) i

pub length-list_of : {A : Type 0} (n : ℕ) (f : ℕ → A) → length (list_of n f) ≡ n
unfolding list_of
length-list_of zero f = refl
length-list_of (suc n) f = ap suc (length-list_of n (λ i. f (suc i)))

pub get_or-list_of : {A : Type 0} (n : ℕ) (f : ℕ → A) (i : ℕ) (d : A) → i < n → get_or (list_of n f) i d ≡ f i
unfolding list_of
get_or-list_of zero f i d h = absurd (not-suc-le-zero h)
get_or-list_of (suc n) f zero d h = refl
get_or-list_of (suc n) f (suc i) d h = get_or-list_of n (λ i. f (suc i)) i d (le_of_suc-le-suc h)
