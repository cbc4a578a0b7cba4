-- Where a routine answers 0, its outcome replaces the shown elements that it admits: one law for every routine whose work is an update.
use Prim.Native.Nat.{ℕ, ◌<◌}
use mathlib.Core.Bool.{Bool, false, cond}
use mathlib.Core.List.{List}
use mathlib.Core.Path.{◌≡◌, refl, ap, ◌∙◌}
use native.Mathlib.Omega.{arith}
use Rattle.number.specs.Kind.{Kind}
use Rattle.number.specs.Laws.{SlabLaws}
use Rattle.view.specs.declared.View.{View}
use Rattle.view.specs.declared.Answer.{Answer}
use Rattle.view.specs.declared.Answer.TheVariants.{Done, TooLarge, OutOfBounds, ShapeMismatch, Overlap, Singular}
use Rattle.view.specs.Refusals.{Fits, overlaps}
use Rattle.view.proofs.PlaceLaws.{fits→index-lt}
use Rattle.view.proofs.OverlapLaws.{no-overlap→index-inj}
use Rattle.slabs.specs.Elem.{elem}
use Rattle.slabs.specs.Distinct.{Inside, Distinct}
use Rattle.slabs.specs.Update.{Mask, Change, update}
use Rattle.slabs.proofs.UpdateLaws.{length-update, update-shown, update-cell}
use Rattle.blas.specs.Outcome.{outcome}
use Rattle.blas.specs.Elements.{Replaces}

pub fits-inside : (v : View) (n : ℕ) → Fits v n → Inside v n
fits-inside v n h = record { below = λ r c p q. fits→index-lt v n h r c p q }

pub apart_distinct : (v : View) (n : ℕ) → Fits v n → overlaps v ≡ false → Distinct v
apart_distinct v n h o = record { only = λ r c r' c' p q p' q' e. no-overlap→index-inj v n h o r c r' c' p q p' q' e }

module _ (K : Kind) (L : SlabLaws K) (v : View) (mask : Mask) (u : Change K) (s : List K.Cell) where
  pub replaces : Fits v (K.count s) → overlaps v ≡ false → Replaces K v mask u s (update K v mask u s)
  replaces h o =
      record {
        written = λ i j p q m. shown i j p q ∙ ap (λ (b : Bool). cond b (u i j (elem K s v i j)) (elem K s v i j)) m;
        kept = record {
          size = length-update K L v mask u s;
          unwritten = λ i j p q m. shown i j p q ∙ ap (λ (b : Bool). cond b (u i j (elem K s v i j)) (elem K s v i j)) m;
          other = λ n d away. update-cell K L v mask u s n d away;
        };
      }
    where
      shown : (i j : ℕ) → i < v.rows → j < v.cols → elem K (update K v mask u s) v i j ≡ cond (mask i j) (u i j (elem K s v i j)) (elem K s v i j)
      shown i j p q = update-shown K L v mask u s (fits-inside v (K.count s) h) (apart_distinct v (K.count s) h o) i j p q

  -- what a passed check says of the target is enough
  pub element-law : (check : Answer) → (check ≡ Done → Fits v (K.count s) × (overlaps v ≡ false))
      → (outcome K check (update K v mask u s) s).answer ≡ 0 → Replaces K v mask u s (outcome K check (update K v mask u s) s).slab
  element-law Done h e = replaces (h refl).0 (h refl).1
  element-law TooLarge h e = absurd (omega arith)
  element-law OutOfBounds h e = absurd (omega arith)
  element-law ShapeMismatch h e = absurd (omega arith)
  element-law Overlap h e = absurd (omega arith)
  element-law Singular h e = absurd (omega arith)
