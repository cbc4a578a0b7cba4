-- What a call answers, and what its target's slab holds afterwards.
use Rattle.std.specs.Prelude.{ℕ, List, ◌≡◌}
use Rattle.number.specs.Kind.{Kind}
use Rattle.view.specs.declared.Answer.{Answer}
use Rattle.view.specs.declared.Answer.TheVariants.{Done, TooLarge, OutOfBounds, ShapeMismatch, Overlap, Singular}
use Rattle.view.specs.Judge.{answer_number}

-- the answer's number (document 01's table; 0 is done) and the target's slab
pub record Outcome (K : Kind) : Type 0 where
  pub answer : ℕ
  pub slab : List K.Cell

-- a call that is refused leaves the slab as lent; one that is not does its work
abbrev pub outcome : (K : Kind) → Answer → List K.Cell → List K.Cell → Outcome K
outcome K Done work entry = record { answer = answer_number Done; slab = work }
outcome K TooLarge work entry = record { answer = answer_number TooLarge; slab = entry }
outcome K OutOfBounds work entry = record { answer = answer_number OutOfBounds; slab = entry }
outcome K ShapeMismatch work entry = record { answer = answer_number ShapeMismatch; slab = entry }
outcome K Overlap work entry = record { answer = answer_number Overlap; slab = entry }
outcome K Singular work entry = record { answer = answer_number Singular; slab = entry }

-- a kernel's contract: its answer and its target's slab at exit are the definition's
pub record Gives (K : Kind) (o : Outcome K) (r : Answer) (after : List K.Cell) : Type 0 where
  pub answer : answer_number r ≡ o.answer
  pub slab : after ≡ o.slab
