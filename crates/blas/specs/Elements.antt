-- What an outcome that replaces shown elements means, element by element.
use Rattle.std.specs.Prelude.{ℕ, ◌+◌, ◌*◌, ◌<◌, ◌≤◌, true, false, List, ◌⊎◌, ◌≡◌, length, get_or}
use Rattle.number.specs.Kind.{Kind}
use Rattle.view.specs.declared.View.{View}
use Rattle.view.specs.Place.{index}
use Rattle.slabs.specs.Elem.{elem}
use Rattle.slabs.specs.Update.{Mask, Change}

-- What is not written is as lent: each shown element that the mask does not admit, and every number of the slab that belongs to no admitted element.
pub record Keeps (K : Kind) (v : View) (mask : Mask) (entry after : List K.Cell) : Type 0 where
  pub size : length after ≡ length entry
  pub unwritten : (i j : ℕ) → i < v.rows → j < v.cols → mask i j ≡ false → elem K after v i j ≡ elem K entry v i j
  pub other : (n : ℕ) (d : K.Cell)
      → ((i j : ℕ) → i < v.rows → j < v.cols → mask i j ≡ true → (n < K.width * index v i j) ⊎ (K.width * index v i j + K.width ≤ n))
      → get_or after n d ≡ get_or entry n d

-- Each element that the view shows and the mask admits is `u` of what was lent there, and the rest is as lent.
pub record Replaces (K : Kind) (v : View) (mask : Mask) (u : Change K) (entry after : List K.Cell) : Type 0 where
  pub written : (i j : ℕ) → i < v.rows → j < v.cols → mask i j ≡ true → elem K after v i j ≡ u i j (elem K entry v i j)
  pub kept : Keeps K v mask entry after
