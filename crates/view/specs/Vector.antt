-- The elements of a vector in order, and the vector as a view of one column.
use Rattle.std.specs.Prelude.{Bool, true, false, cond, ℕ, leb, ℤ, pos}
use Rattle.view.specs.declared.View.{View}
use Rattle.view.specs.declared.Coord.{Coord}
use Rattle.view.specs.Place.{transposed_of}
use Rattle.view.specs.Refusals.{vec_length}

-- element k down a column, or along a row
abbrev pub coord_at : Bool → ℕ → Coord
coord_at true k = record { row = k; col = 0 }
coord_at false k = record { row = 0; col = k }

-- the row and the column of a vector's element k
unfoldable pub vec_coord : View → ℕ → Coord
vec_coord v k = coord_at (leb v.cols v.rows) k

-- the same elements, with the columns no more than the rows
abbrev pub upright_of : View → View
upright_of v = cond (leb v.cols v.rows) v (transposed_of v)

-- the stride from one element of a vector to the next
unfoldable pub vec_stride : View → ℤ
vec_stride v = cond (leb v.cols v.rows) v.rs v.cs

-- one column that shows the vector's elements in order
abbrev pub column_of : View → View
column_of v = record { start = v.start; rows = vec_length v; cols = 1; rs = vec_stride v; cs = pos 0 }
