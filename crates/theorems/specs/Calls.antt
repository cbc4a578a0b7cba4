-- How the theorems speak of the code. A kernel's contract says `Gives K o r after`, o being the definition's outcome for the call, r the answer
-- and `after` the target's slab at exit; what the theorems say of outcomes then holds of answers and slabs.
use Rattle.std.specs.Prelude.{List, ◌≡◌}
use Rattle.number.specs.Kind.{Kind}
use Rattle.number.specs.Laws.{SameSlab}
use Rattle.view.specs.declared.View.{View}
use Rattle.view.specs.declared.Answer.{Answer}
use Rattle.view.specs.Judge.{answer_number}
use Rattle.slabs.specs.Elem.{Lent}
use Rattle.slabs.specs.Update.{Mask}
use Rattle.blas.specs.Matrix.{Matrix}
use Rattle.blas.specs.Outcome.{Outcome, Gives}
use Rattle.theorems.specs.Agreement.{SameOutcome, SameShape, Coefficient, Agree}
use Rattle.theorems.specs.Exactness.{Wholes, Leaves}

-- two calls end alike: the same answer number, and equal numbers in every place of their targets' slabs
pub record EndAlike (K : Kind) (r r' : Answer) (after after' : List K.Cell) : Type 0 where
  pub answer : answer_number r ≡ answer_number r'
  pub slab : SameSlab K after after'

-- ---- two calls, of the outcomes o and o'

abbrev pub AlikeCalls : Kind → Type 0
AlikeCalls K =
    (o o' : Outcome K) (r r' : Answer) (after after' : List K.Cell) → Gives K o r after → Gives K o' r' after'
    → (SameOutcome K o o' → EndAlike K r r' after after') × (EndAlike K r r' after after' → SameOutcome K o o')

-- ---- demand 3 of a kernel

-- a kernel with its flags, by its contract: for every A and every call its answer and its target's slab at exit are the definition's
pub record Kernel (K : Kind) (Call : Type 0) (run : Lent K → Call → Outcome K) : Type 0 where
  pub answer : Lent K → Call → Answer
  pub after : Lent K → Call → List K.Cell
  pub contract : (a : Lent K) (o : Call) → Gives K (run a o) (answer a o) (after a o)

-- two coefficient matrices end every call alike exactly when their named elements are equal as numbers
abbrev pub KernelSees : (K : Kind) (Call : Type 0) (run : Lent K → Call → Outcome K) → Kernel K Call run → (View → Type 0) → Mask → Type 0
KernelSees K Call run k Form names =
    (a a' : Lent K) → SameShape a.view a'.view → Coefficient K Form names a → Coefficient K Form names a'
    → (((o : Call) → EndAlike K (k.answer a o) (k.answer a' o) (k.after a o) (k.after a' o)) → Agree K names a a')
    × (Agree K names a a' → (o : Call) → EndAlike K (k.answer a o) (k.answer a' o) (k.after a o) (k.after a' o))

-- ---- exactness of a call that answered 0

abbrev pub ExactCall : {K Z : Kind} → Wholes K Z → Type 0
ExactCall {K} {Z} W =
    (o : Outcome K) (written : Mask) (target : Lent K) (z : Matrix Z) → (o.answer ≡ 0 → Leaves W written o.slab target z)
    → (r : Answer) (after : List K.Cell) → Gives K o r after → answer_number r ≡ 0 → Leaves W written after target z
