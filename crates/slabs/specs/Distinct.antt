-- When a view's elements lie in a slab and apart from each other: what a call that is not refused knows of its target.
use Rattle.std.specs.Prelude.{ℕ, ◌<◌, ◌≡◌}
use Rattle.view.specs.declared.View.{View}
use Rattle.view.specs.Place.{index}

-- every shown element is one of a slab's n elements
pub record Inside (v : View) (n : ℕ) : Type 0 where
  pub below : (r c : ℕ) → r < v.rows → c < v.cols → index v r c < n

-- two shown elements on one place are the same element
pub record Distinct (v : View) : Type 0 where
  pub only : (r c r' c' : ℕ) → r < v.rows → c < v.cols → r' < v.rows → c' < v.cols → index v r c ≡ index v r' c' → (r ≡ r') × (c ≡ c')
