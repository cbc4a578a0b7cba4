-- The named triangle of a square matrix.
use Rattle.std.specs.Prelude.{Bool, ℕ, ◌+◌, leb}
use Rattle.view.specs.declared.UpLo.{UpLo}
use Rattle.view.specs.declared.UpLo.TheVariants.{Upper, Lower}

-- (i, j) is in the named triangle, the diagonal included
abbrev pub in_triangle : UpLo → ℕ → ℕ → Bool
in_triangle Upper i j = leb i j
in_triangle Lower i j = leb j i

-- its columns in row i of a matrix of n columns: from the first to before the end
abbrev pub first_col : UpLo → ℕ → ℕ
first_col Upper i = i
first_col Lower i = 0

abbrev pub end_col : UpLo → ℕ → ℕ → ℕ
end_col Upper i n = n
end_col Lower i n = i + 1
