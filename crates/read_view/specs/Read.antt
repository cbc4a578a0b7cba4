-- What reading element (r, c) of a view finds, over any number kind and for all arguments: the element, or the refusal.
use Rattle.std.specs.Prelude.{Bool, not, cond, ◌&&◌, List, [], ◌∷◌, ℕ, ltb, Result, Ok, Err}
use Rattle.number.specs.Kind.{Kind}
use Rattle.view.specs.declared.View.{View}
use Rattle.view.specs.declared.Answer.{Answer}
use Rattle.view.specs.declared.Answer.TheVariants.{Done, OutOfBounds}
use Rattle.view.specs.Judge.{answer_number, is_done, refuse}
use Rattle.view.specs.Checks.{read_check}
use Rattle.slabs.specs.Elem.{elem}

-- the view has an element (r, c)
abbrev pub in_shape : View → ℕ → ℕ → Bool
in_shape v r c = ltb r v.rows && ltb c v.cols

-- refusals 1 and 2 of the view on a slab of n elements; refusal 2 where the view has no such element; else done
unfoldable pub read_answer : View → ℕ → ℕ → ℕ → Answer
read_answer v n r c =
    cond (is_done (read_check v n)) (refuse (not (in_shape v r c)) OutOfBounds Done) (read_check v n)

-- the element where the answer is Done, as `number` holds it; else the answer, as `refused` holds it
unfoldable pub read_at : {A : Type 0} (K : Kind) → (K.Elem → A) → (Answer → A) → List K.Cell → View → ℕ → ℕ → A
read_at K number refused s v r c =
    let a = read_answer v (K.count s) r c in
    cond (is_done a) (number (elem K s v r c)) (refused a)

-- ---- the outcome of a read: document 01's number, and the values that are found, one or none

pub record ReadOutcome (K : Kind) : Type 0 where
  pub answer : ℕ
  pub found : List K.Elem

abbrev pub found_element : (K : Kind) → K.Elem → ReadOutcome K
found_element K x = record { answer = answer_number Done; found = x ∷ [] }

abbrev pub refused_read : (K : Kind) → Answer → ReadOutcome K
refused_read K a = record { answer = answer_number a; found = [] }

abbrev pub read_outcome : (K : Kind) → List K.Cell → View → ℕ → ℕ → ReadOutcome K
read_outcome K = read_at K (found_element K) (refused_read K)

-- what the code returns, case by case
abbrev pub found_outcome : (K : Kind) → Result K.Elem Answer → ReadOutcome K
found_outcome K (Ok x) = found_element K x
found_outcome K (Err a) = refused_read K a
