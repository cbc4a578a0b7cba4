-- Steps 0 to n − 1, one after another.
use Rattle.std.specs.Prelude.{ℕ, zero, suc}

unfoldable pub walk : {A : Type 0} → ℕ → (ℕ → A → A) → A → A
walk zero f s = s
walk (suc n) f s = f n (walk n f s)
