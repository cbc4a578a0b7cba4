-- The elements that a view shows, replaced in place: by rows, each by rising column. Element (i, j) becomes `u i j` of itself
-- where `mask i j` admits it, and stays otherwise.
use Rattle.std.specs.Prelude.{◌≡◌, ℕ, zero, suc, ◌≤◌, ◌<◌, Bool, true, cond, ◌&&◌, ◌||◌, false, List, ltb, leb, eqb}
use Rattle.number.specs.Kind.{Kind}
use Rattle.view.specs.declared.View.{View}
use Rattle.view.specs.Place.{index}
use Rattle.slabs.specs.Elem.{elem}

-- which elements are written
abbrev pub Mask : Type 0
Mask = ℕ → ℕ → Bool

abbrev pub everywhere : Mask
everywhere i j = true

-- what becomes of an element
abbrev pub Change : Kind → Type 0
Change K = ℕ → ℕ → K.Elem → K.Elem

-- element (i, j) becomes `new` of itself
abbrev pub replaced : (K : Kind) → View → ℕ → ℕ → (K.Elem → K.Elem) → List K.Cell → List K.Cell
replaced K v i j new s = K.put s (index v i j) (new (elem K s v i j))

-- element (i, j), where the mask admits it
unfoldable pub update_one : (K : Kind) → View → Mask → Change K → ℕ → ℕ → List K.Cell → List K.Cell
update_one K v mask u i j s = cond (mask i j) (replaced K v i j (u i j) s) s

-- the first n elements of row i
unfoldable pub update_row : (K : Kind) → View → Mask → Change K → ℕ → ℕ → List K.Cell → List K.Cell
update_row K v mask u i zero s = s
update_row K v mask u i (suc j) s = update_one K v mask u i j (update_row K v mask u i j s)

-- the first m rows
unfoldable pub update_rows : (K : Kind) → View → Mask → Change K → ℕ → List K.Cell → List K.Cell
update_rows K v mask u zero s = s
update_rows K v mask u (suc i) s = update_row K v mask u i v.cols (update_rows K v mask u i s)

-- the elements of row i from column a to before column n, and the rows from a to before n
abbrev pub span : (K : Kind) → View → Change K → ℕ → ℕ → ℕ → List K.Cell → List K.Cell
span K v u i a n s = update_row K v (λ r j. leb a j) u i n s

abbrev pub span_rows : (K : Kind) → View → Change K → ℕ → ℕ → List K.Cell → List K.Cell
span_rows K v u a n s = update_rows K v (λ r j. leb a r) u n s

-- every element
abbrev pub update : (K : Kind) → View → Mask → Change K → List K.Cell → List K.Cell
update K v mask u s = update_rows K v mask u v.rows s

-- ---- the fold on its way

-- (r, c) comes before (i, j): in an earlier row, or earlier in the row
abbrev pub before : ℕ → ℕ → ℕ → ℕ → Bool
before r c i j = ltb r i || (eqb r i && ltb c j)

-- the elements of a mask that come before (i, j)
abbrev pub first : ℕ → ℕ → Mask → Mask
first i j mask r c = before r c i j && mask r c

-- the elements before (i, j) done, and no other
abbrev pub prefix : (K : Kind) → View → Mask → Change K → ℕ → ℕ → List K.Cell → List K.Cell
prefix K v mask u i j s = update_row K v mask u i j (update_rows K v mask u i s)

-- ---- the columns of a row that are written

-- of the first n columns of row i the mask admits those from `first` to before `end`
pub record Columns (mask : Mask) (i n first end : ℕ) : Type 0 where
  pub ordered : first ≤ end
  pub within : end ≤ n
  pub before : (j : ℕ) → j < first → mask i j ≡ false
  pub inside : (j : ℕ) → first ≤ j → j < end → mask i j ≡ true
  pub after : (j : ℕ) → end ≤ j → j < n → mask i j ≡ false
