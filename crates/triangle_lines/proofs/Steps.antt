-- The steps of a loop over numbers side by side, over the terms of their sums, and over lines and unknowns.
use Rattle.std.proofs.Common.{ℕ, ◌+◌, ◌-◌, ◌≤◌, ◌≡◌, List, ap, ◌∙◌}
use Rattle.number.specs.Kind.{Kind}
use Rattle.view.specs.declared.View.{View}
use Rattle.view.specs.Place.{index}
use Rattle.slabs.specs.Eight.{lane}
use Rattle.slabs.proofs.LoopLaws.{row-begun, put_next, rows-begun, rows_next}
use Rattle.slabs.proofs.RunLaws.{there}
use Rattle.triangle_plan.specs.Lanes.{put_lanes}
use Rattle.triangle_plan.proofs.WalkLaws.{walk_first, walk_on, walk_start, walk-next}
use Rattle.triangle_plan.proofs.Solves.{lines_in, unknowns_in}
use Rattle.triangle_plan.proofs.Systems.{coefficient_shown, lanes_shown}

module _ (K : Kind) (v : View) (q l first : ℕ) (xs : List K.Elem) (s₀ : List K.Cell) where
  -- number p put into its column
  pub put_on : (p : ℕ) (s t : List K.Cell) → first ≤ p → s ≡ put_lanes K v q l first xs (p - first) s₀ → t ≡ K.put s (index v q (l + p)) (lane K xs p)
      → t ≡ put_lanes K v q l first xs (p + 1 - first) s₀
  put_on p s t h e d =
      walk_on (λ i r. K.put r (index v q (l + (first + i))) (lane K xs (first + i))) s₀ first p s t h e
      (d ∙ ap (λ (n : ℕ). K.put s (index v q (l + n)) (lane K xs n)) (there first p h))

  pub put_first : s₀ ≡ put_lanes K v q l first xs (first - first) s₀
  put_first = walk_first (λ i r. K.put r (index v q (l + (first + i))) (lane K xs (first + i))) s₀ first

-- what the terms of a run read
pub ruleset shown = (coefficient_shown, lanes_shown)

-- a walk
pub ruleset walks = (walk_start, walk-next)

-- elements by rows
pub ruleset rows = (row-begun, put_next, rows-begun, rows_next)

-- the lines and the unknowns that are solved
pub ruleset solved = (lines_in, unknowns_in)
