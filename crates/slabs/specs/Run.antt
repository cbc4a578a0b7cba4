-- A run of terms: row i of one view by column j of another, added up or taken off by one plain loop.
use Rattle.std.specs.Prelude.{ℕ, zero, suc, ◌+◌, ◌<◌, Bool, cond, List}
use Rattle.number.specs.Kind.{Kind}
use Rattle.view.specs.declared.View.{View}
use Rattle.slabs.specs.Elem.{elem, Within}

-- element (i, j) of a view, conjugated or not
abbrev pub elem_conj : (K : Kind) → Bool → List K.Cell → View → ℕ → ℕ → K.Elem
elem_conj K conjugated s v i j = cond conjugated (K.conj (elem K s v i j)) (elem K s v i j)

-- x + f from + f (from + 1) + .., n terms
unfoldable pub plus_terms : (K : Kind) → K.Elem → (ℕ → K.Elem) → ℕ → ℕ → K.Elem
plus_terms K x f from zero = x
plus_terms K x f from (suc n) = K.add (plus_terms K x f from n) (f (from + n))

-- row i of one view and column j of another, n elements from `from` on, are inside their slabs
pub record Spans (va : View) (la : ℕ) (vb : View) (lb i j from n : ℕ) : Type 0 where
  pub left : (q : ℕ) → q < n → Within va la i (from + q)
  pub right : (q : ℕ) → q < n → Within vb lb (from + q) j
