-- Substitution: op(A) X = B (Left) or X op(A) = B (Right) solved in B's place, element after element in solving order.
-- The unknowns of one line of B (Left: a column, Right: a row) are solved from the last or from the first, each from those before it.
-- `Solves` (Solves.antt) says what this leaves of each unknown and of every other number.
use Rattle.std.specs.Prelude.{ℕ, zero, suc, ◌+◌, ◌-◌, ◌*◌, ◌/◌, ◌%◌, Bool, true, false, not, cond, ◌&&◌, List, ltb}
use Rattle.number.specs.Kind.{Kind}
use Rattle.view.specs.declared.View.{View}
use Rattle.view.specs.declared.Answer.{Answer}
use Rattle.view.specs.declared.Answer.TheVariants.{Done, TooLarge, OutOfBounds, ShapeMismatch, Overlap, Singular}
use Rattle.view.specs.declared.Trans.{Trans}
use Rattle.view.specs.declared.UpLo.{UpLo}
use Rattle.view.specs.declared.Diag.{Diag}
use Rattle.view.specs.declared.Diag.TheVariants.{NonUnit, Unit}
use Rattle.view.specs.declared.Side.{Side}
use Rattle.view.specs.declared.Side.TheVariants.{Left, Right}
use Rattle.view.specs.Any.{any}
use Rattle.view.specs.Checks.{order_of}
use Rattle.view.specs.Judge.{answer_number}
use Rattle.view.specs.Place.{index}
use Rattle.blas.specs.Matrix.{Matrix, op}
use Rattle.blas.specs.Triangular.{op_upper}
use Rattle.blas.specs.Outcome.{Outcome}

-- ---- unknowns

-- where unknown p of line l stands
abbrev pub unknown_at : Side → View → ℕ → ℕ → ℕ
unknown_at Left v p l = index v p l
unknown_at Right v p l = index v l p

abbrev pub unknown : (K : Kind) → Side → List K.Cell → View → ℕ → ℕ → K.Elem
unknown K side s v p l = K.at s (unknown_at side v p l)

-- what unknown p, of value x, brings into the equation of unknown q, in this order of operands
abbrev pub brings : (K : Kind) → Side → Trans → Matrix K → ℕ → ℕ → K.Elem → K.Elem
brings K Left t a q p x = K.mul (op K t a q p) x
brings K Right t a q p x = K.mul x (op K t a p q)

-- ---- solving order

-- whether the last unknown comes first
abbrev pub last_first : Side → UpLo → Trans → Bool
last_first Left uplo t = op_upper uplo t
last_first Right uplo t = not (op_upper uplo t)

-- of m unknowns the one solved after k others
abbrev pub in_order : Bool → ℕ → ℕ → ℕ
in_order true m k = m - suc k
in_order false m k = k

-- and the least of those k
abbrev pub least_solved : Bool → ℕ → ℕ → ℕ
least_solved true m k = m - k
least_solved false m k = 0

-- The n-th element in solving order: how many unknowns of its line come before it, and its line.
-- Left: line after line. Right: unknown after unknown, each in every line. Either way B's columns are gone through one after another.
abbrev pub turn_of : Side → View → ℕ → ℕ
turn_of Left v n = n % v.rows
turn_of Right v n = n / v.rows

abbrev pub line_of : Side → View → ℕ → ℕ
line_of Left v n = n / v.rows
line_of Right v n = n % v.rows

-- how many elements come before unknown k in solving order, of the first line
abbrev pub elements_before : Side → View → ℕ → ℕ
elements_before Left v k = k
elements_before Right v k = k * v.rows

-- the first number below n at which f passes, else n
unfoldable pub first_at : ℕ → (ℕ → Bool) → ℕ
first_at zero f = zero
first_at (suc n) f = cond (f zero) zero (suc (first_at n (λ k. f (suc k))))

-- ---- one element

-- x − f from − f (from + 1) − .., n terms
unfoldable pub minus_terms : (K : Kind) → K.Elem → (ℕ → K.Elem) → ℕ → ℕ → K.Elem
minus_terms K x f from zero = x
minus_terms K x f from (suc n) = K.sub (minus_terms K x f from n) (f (from + n))

-- divided by the pivot, which is conjugated under ConjTrans; Unit reads no diagonal
abbrev pub by_pivot : (K : Kind) → Diag → Trans → Matrix K → ℕ → K.Elem → K.Elem
by_pivot K NonUnit t a q x = K.div x (op K t a q q)
by_pivot K Unit t a q x = x

-- a pivot by which no number is divided
abbrev pub zero_pivot : (K : Kind) → Diag → Matrix K → ℕ → Bool
zero_pivot K NonUnit a q = K.is_zero (a q q)
zero_pivot K Unit a q = false

-- ---- the slab

module _ (K : Kind) (side : Side) (uplo : UpLo) (t : Trans) (diag : Diag) (begin : K.Elem → K.Elem) (a : Matrix K) (v : View) where
  -- the unknown that is solved after k others
  abbrev pub unknown_of : ℕ → ℕ
  unknown_of k = in_order (last_first side uplo t) (order_of side v) k

  -- unknown q of line l, with the k unknowns before it solved: the right-hand side, less what they bring by rising index, by the pivot
  abbrev pub solution : ℕ → ℕ → ℕ → List K.Cell → K.Elem
  solution k q l s =
      by_pivot K diag t a q
      (minus_terms K (begin (unknown K side s v q l)) (λ p. brings K side t a q p (unknown K side s v p l)) (least_solved (last_first side uplo t) (order_of side v) k) k)

  unfoldable pub solve_one : ℕ → ℕ → List K.Cell → List K.Cell
  solve_one k l s = K.put s (unknown_at side v (unknown_of k) l) (solution k (unknown_of k) l s)

  -- the first n elements in solving order solved
  unfoldable pub solved : ℕ → List K.Cell → List K.Cell
  solved zero s = s
  solved (suc n) s = solve_one (turn_of side v n) (line_of side v n) (solved n s)

  -- refusal 5: NonUnit, the target not empty, some diagonal element zero
  abbrev pub singular : Bool
  singular = ltb 0 (v.rows * v.cols) && any (order_of side v) (λ q. zero_pivot K diag a q)

  -- how many elements come before the first zero pivot in solving order
  abbrev pub solvable : ℕ
  solvable = elements_before side v (first_at (order_of side v) (λ k. zero_pivot K diag a (unknown_of k)))

  -- what a solve answers and leaves of a slab
  unfoldable pub substituted : List K.Cell → Outcome K
  substituted s =
      cond singular
      (record { answer = answer_number Singular; slab = solved solvable s })
      (record { answer = answer_number Done; slab = solved (v.rows * v.cols) s })

-- a call that its check refuses leaves the slab as lent; one that it does not has the outcome of its work
abbrev pub attempt : (K : Kind) → Answer → Outcome K → List K.Cell → Outcome K
attempt K Done work entry = work
attempt K TooLarge work entry = record { answer = answer_number TooLarge; slab = entry }
attempt K OutOfBounds work entry = record { answer = answer_number OutOfBounds; slab = entry }
attempt K ShapeMismatch work entry = record { answer = answer_number ShapeMismatch; slab = entry }
attempt K Overlap work entry = record { answer = answer_number Overlap; slab = entry }
attempt K Singular work entry = record { answer = answer_number Singular; slab = entry }
