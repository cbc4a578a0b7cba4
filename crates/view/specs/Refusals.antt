-- The conditions of refusals 1, 2 and 4 for one view, and what a vector is, in document 01's words: each goes over all the
-- elements that it speaks of.
use Rattle.std.specs.Prelude.{Bool, true, false, not, ◌&&◌, ◌||◌, ◌≡◌, ℕ, ◌*◌, leb, ltb, eqb, ℤ, pos, negsuc}
use Rattle.view.specs.declared.View.{View}
use Rattle.view.specs.Any.{any}
use Rattle.view.specs.Place.{place}

-- the most rows, and the most columns, that a view may have
abbrev pub limit : ℕ
limit = 64

-- refusal 1, the trade's oversize
unfoldable pub too_large : View → Bool
too_large v = ltb limit v.rows || ltb limit v.cols

-- no index of a slab of len elements
abbrev pub outside : ℕ → ℤ → Bool
outside len (pos k) = leb len k
outside len (negsuc k) = true

-- refusal 2, the trade's off the slab: some element is outside a slab of len elements
unfoldable pub out_of_bounds : View → ℕ → Bool
out_of_bounds v len = any v.rows (λ r. any v.cols (λ c. outside len (place v r c)))

abbrev pub eq_z : ℤ → ℤ → Bool
eq_z (pos a) (pos b) = eqb a b
eq_z (pos a) (negsuc b) = false
eq_z (negsuc a) (pos b) = false
eq_z (negsuc a) (negsuc b) = eqb a b

-- (r, c) and (r', c') are two elements, and on one place
abbrev pub doubled : View → ℕ → ℕ → ℕ → ℕ → Bool
doubled v r c r' c' = not (eqb r r' && eqb c c') && eq_z (place v r c) (place v r' c')

-- refusal 4, the trade's doubled cell: two elements share a place
unfoldable pub overlaps : View → Bool
overlaps v =
    any v.rows (λ r. any v.cols (λ c. any v.rows (λ r'. any v.cols (λ c'. doubled v r c r' c'))))

-- a vector has at most 1 row or at most 1 column
unfoldable pub is_vector : View → Bool
is_vector v = leb v.rows 1 || leb v.cols 1

abbrev pub vec_length : View → ℕ
vec_length v = v.rows * v.cols

-- the view's elements are all in a slab of len elements
abbrev pub Fits : View → ℕ → Type 0
Fits v len = out_of_bounds v len ≡ false
