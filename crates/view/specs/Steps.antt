-- What the steps of the checks work out, and what `place` asks of its caller.
use Rattle.std.specs.Prelude.{Bool, ◌&&◌, ℕ, suc, ◌+◌, ◌*◌, ◌^◌, ◌≤◌, ◌<◌, ltb, eqb, ℤ, pos, negsuc}
use Rattle.view.specs.declared.View.{View}
use Rattle.view.specs.Any.{any}
use Rattle.view.specs.Refusals.{limit, Fits}

-- an integer is its positive part less its negative part
abbrev pub up : ℤ → ℕ
up (pos n) = n
up (negsuc n) = 0

abbrev pub down : ℤ → ℕ
down (pos n) = 0
down (negsuc n) = suc n

-- k steps of x reach as far as d steps of y, for some k < rows and d < cols that are not both 0
unfoldable pub meets : ℕ → ℕ → ℕ → ℕ → Bool
meets rows x cols y = any rows (λ k. any cols (λ d. ltb 0 (k + d) && eqb (k * x) (d * y)))

-- a view that a passed check leaves: its sizes are within the limit, and it fits its slab
pub record Accepted (v : View) (len : ℕ) : Type 0 where
  pub rows-le : v.rows ≤ limit
  pub cols-le : v.cols ≤ limit
  pub fits : Fits v len

-- (r, c) is an element of a view that fits some slab; a slice has fewer than 2 ^ 63 elements
pub record Shown (v : View) (r c : ℕ) : Type 0 where
  pub len : ℕ
  pub len-le : len ≤ 2 ^ 63
  pub accepted : Accepted v len
  pub row : r < v.rows
  pub col : c < v.cols
