-- A call with its flags in range has the routine's outcome; one with a flag out of range is refused.
use Prim.Native.Nat.{ℕ}
use mathlib.Core.Bool.{Bool, true, false}
use mathlib.Core.List.{List}
use mathlib.Core.Path.{◌≡◌, refl, ◌∙◌}
use lib.IntN.{ℤ}
use mir.Syntax.{w64}
use mir.Val.{SFits, to_z, of_z}
use mir.Facts.{to_z-of_z}
use Rattle.number.specs.Kind.{Kind}
use Rattle.view.specs.declared.View.{View}
use Rattle.view.specs.declared.Answer.{Answer}
use Rattle.view.specs.declared.Answer.TheVariants.{Done, TooLarge, OutOfBounds, ShapeMismatch, Overlap, Singular}
use Rattle.view.specs.Judge.{answer_number}
use Rattle.blas.specs.Outcome.{Outcome, outcome, Gives}
use Rattle.view.specs.Place.{view_of}
use Rattle.capi_flags.specs.Interface.{Returns, flagged}

pub called : {K : Kind} {valid : Bool} {o : Outcome K} {r : Answer} {n : ℕ} {after : List K.Cell} (refusal : Answer) (entry : List K.Cell)
    → valid ≡ true → Gives K o r after → n ≡ answer_number r → Returns K (flagged K valid o refusal entry) n after
unfolding flagged
called refusal entry h g e = rw h (record { answer = e ∙ g.answer; slab = g.slab })

as-refused : {K : Kind} {entry : List K.Cell} (a : Answer) → Returns K (outcome K a entry entry) (answer_number a) entry
as-refused Done = record { answer = refl; slab = refl }
as-refused TooLarge = record { answer = refl; slab = refl }
as-refused OutOfBounds = record { answer = refl; slab = refl }
as-refused ShapeMismatch = record { answer = refl; slab = refl }
as-refused Overlap = record { answer = refl; slab = refl }
as-refused Singular = record { answer = refl; slab = refl }

pub refused : {K : Kind} {valid : Bool} {r refusal : Answer} {n : ℕ} {entry : List K.Cell} (o : Outcome K)
    → valid ≡ false → r ≡ refusal → n ≡ answer_number r → Returns K (flagged K valid o refusal entry) n entry
unfolding flagged
refused {refusal = refusal} o h q e = rw (h, e, q) (as-refused refusal)

-- ---- views: a signed argument arrives as its bits

pub view-is : {v : View} {start rows cols : ℕ} {rs cs : ℤ} → SFits w64 rs → SFits w64 cs
    → v ≡ view_of start rows cols (to_z w64 (of_z w64 rs)) (to_z w64 (of_z w64 cs)) → v ≡ view_of start rows cols rs cs
view-is {start = start} {rows = rows} {cols = cols} p q e = e ∙ (λ i. view_of start rows cols (to_z-of_z p i) (to_z-of_z q i))
