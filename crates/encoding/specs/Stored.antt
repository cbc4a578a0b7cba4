-- What a run of stores leaves of a list. Assumes nothing.
use Rattle.std.specs.Prelude.{ℕ, zero, suc, ◌+◌, List, set}

module _ {ℓ} {A : Type ℓ} where
  -- s with f 0, f 1, .. f (m - 1) in the places from `at` on
  unfoldable pub stored : ℕ → ℕ → (ℕ → A) → List A → List A
  stored at zero f s = s
  stored at (suc m) f s = set (stored at m f s) (at + m) (f m)
