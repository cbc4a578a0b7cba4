-- What a view shows of a slab.
use Rattle.std.specs.Prelude.{ℕ, ◌<◌, List}
use Rattle.number.specs.Kind.{Kind}
use Rattle.view.specs.declared.View.{View}
use Rattle.view.specs.Place.{index}
use Rattle.view.specs.Steps.{Accepted}

-- a lent slab with the view of it that a call names
pub record Lent (K : Kind) : Type 0 where
  pub slab : List K.Cell
  pub view : View

abbrev pub lent : (K : Kind) → List K.Cell → View → Lent K
lent K s v = record { slab = s; view = v }

-- element (r, c)
abbrev pub elem : (K : Kind) → List K.Cell → View → ℕ → ℕ → K.Elem
elem K s v r c = K.at s (index v r c)

-- element (r, c) is inside a slab of len elements
pub record Within (v : View) (len r c : ℕ) : Type 0 where
  pub fits : Accepted v len
  pub row : r < v.rows
  pub col : c < v.cols
