-- Numbers worked out side by side, for some columns of a row or eight rows of a column, and put there one after another.
use Rattle.std.specs.Prelude.{ℕ, ◌+◌, ◌-◌, Bool, true, false, List}
use Rattle.number.specs.Kind.{Kind}
use Rattle.view.specs.declared.View.{View}
use Rattle.view.specs.Place.{index}
use Rattle.blas.specs.Substitution.{in_order}
use Rattle.slabs.specs.Eight.{lane}
use Rattle.triangle_plan.specs.Walk.{walk}

-- n of the numbers xs, from number `first` on, put into row q: number t into column l + t
abbrev pub put_lanes : (K : Kind) → View → ℕ → ℕ → ℕ → List K.Elem → ℕ → List K.Cell → List K.Cell
put_lanes K v q l first xs n s = walk n (λ i r. K.put r (index v q (l + (first + i))) (lane K xs (first + i))) s

-- of m unknowns the least of the eight that come after k others
abbrev pub eight_from : Bool → ℕ → ℕ → ℕ
eight_from true m k = m - 8 - k
eight_from false m k = k

-- n of the numbers xs, from the one after `first` others on, put into a column: number t into row q + t
abbrev pub put_rows : (K : Kind) → Bool → View → ℕ → ℕ → List K.Elem → ℕ → List K.Cell → List K.Cell
put_rows K last v q first xs n s = walk n (λ i r. K.put r (index v (q + in_order last 8 (first + i)) 0) (lane K xs (in_order last 8 (first + i)))) s
