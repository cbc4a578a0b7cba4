-- Sums side by side, in an array, and the columns or rows whose they are.
use Rattle.std.specs.Prelude.{ℕ, ◌+◌, ◌≤◌, ◌<◌, List, ◌≡◌, length, get_or}
use Rattle.number.specs.Kind.{Kind}

-- sum t of an array
abbrev pub lane : (K : Kind) → List K.Elem → ℕ → K.Elem
lane K s t = get_or s t K.zero

-- n of them, of which sum t is f t
pub record Lanes (K : Kind) (n : ℕ) (s : List K.Elem) (f : ℕ → K.Elem) : Type 0 where
  pub count : length s ≡ n
  pub sum : (t : ℕ) → t < n → lane K s t ≡ f t

-- of n columns, or rows, the w from `from` on have those from `first` to before `end`
pub record Block (w from first end n : ℕ) : Type 0 where
  pub begins : from ≤ first
  pub ordered : first ≤ end
  pub ends : end ≤ from + w
  pub within : from + w ≤ n
