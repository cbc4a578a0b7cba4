-- A row more of a column that is written.
use Rattle.std.proofs.Common.{ℕ, ◌+◌, ◌-◌, ◌≤◌, ◌≡◌, Bool, List, get_or, ap, ◌∙◌, arith}
use Rattle.number.specs.Kind.{Kind}
use Rattle.view.specs.declared.View.{View}
use Rattle.view.specs.Place.{index}
use Rattle.std.proofs.lemmas.List.{get_or_default}
use Rattle.slabs.specs.Eight.{lane, Lanes}
use Rattle.slabs.proofs.RunLaws.{there}
use Rattle.blas.specs.Substitution.{in_order}
use Rattle.triangle_plan.specs.declared.System.{System}
use Rattle.triangle_plan.specs.Ready.{LinesReady, ReadyAt}
use Rattle.triangle_plan.specs.Lanes.{put_rows}
use Rattle.triangle_plan.proofs.WalkLaws.{walk_first, walk_on, walk_start}
use Rattle.triangle_plan.proofs.Rows.{row_ready, rows_shown}

-- an element of the only line
pub line_ready : (y : System) (la lb q : ℕ) → ReadyAt y la lb q 0 → LinesReady y la lb q 0 1
line_ready y la lb q r =
    record { ready = r.ready; wide = record { some = omega arith; few = omega arith }; unknown = r.unknown; lines = omega (arith, r.line) }

-- the sum of one lane alone
pub only_lane : (K : Kind) (s : List K.Elem) (f : ℕ → K.Elem) (d : K.Elem) → Lanes K 1 s f → get_or s 0 d ≡ f 0
only_lane K s f d e = get_or_default s 0 d K.zero (omega (arith, e.count)) ∙ e.sum 0 (omega arith)

module _ (K : Kind) (last : Bool) (v : View) (q first : ℕ) (xs : List K.Elem) (s₀ : List K.Cell) where
  abbrev step : ℕ → List K.Cell → List K.Cell
  step i r = K.put r (index v (q + in_order last 8 (first + i)) 0) (lane K xs (in_order last 8 (first + i)))

  pub put_first : s₀ ≡ put_rows K last v q first xs (first - first) s₀
  put_first = walk_first step s₀ first

  -- the number that comes after p others put into its row
  pub put_on : (p : ℕ) (s t : List K.Cell) → first ≤ p → s ≡ put_rows K last v q first xs (p - first) s₀
      → t ≡ K.put s (index v (q + in_order last 8 p) 0) (lane K xs (in_order last 8 p)) → t ≡ put_rows K last v q first xs (p + 1 - first) s₀
  put_on p s t h e d = walk_on step s₀ first p s t h e (d ∙ ap (λ (n : ℕ). K.put s (index v (q + in_order last 8 n) 0) (lane K xs (in_order last 8 n))) (there first p h))

-- what eight rows read
pub ruleset shown = (row_ready, rows_shown)

-- a walk
pub ruleset walks = (walk_start)
