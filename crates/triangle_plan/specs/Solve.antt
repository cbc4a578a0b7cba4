-- A solve in place: one unknown, and how far it goes.
use Rattle.std.specs.Prelude.{ℕ, Bool, false, cond, ◌&&◌, List, ◌≡◌, ltb}
use Rattle.number.specs.Kind.{Kind}
use Rattle.view.specs.declared.Answer.{Answer}
use Rattle.view.specs.declared.Answer.TheVariants.{Done, Singular}
use Rattle.view.specs.declared.Diag.{Diag}
use Rattle.view.specs.declared.Diag.TheVariants.{NonUnit, Unit}
use Rattle.view.specs.declared.Side.{Side}
use Rattle.view.specs.declared.Side.TheVariants.{Left, Right}
use Rattle.view.specs.Place.{index}
use Rattle.slabs.specs.Elem.{elem}
use Rattle.blas.specs.Substitution.{in_order, least_solved, minus_terms, first_at}
use Rattle.triangle_plan.specs.declared.System.{System}
use Rattle.triangle_plan.specs.Triangles.{coefficient}
use Rattle.triangle_plan.specs.Walk.{walk}

-- divided by the pivot c; Unit has none
abbrev pub by_diag : (K : Kind) → Diag → K.Elem → K.Elem → K.Elem
by_diag K NonUnit c x = K.div x c
by_diag K Unit c x = x

-- the diagonal element c is a zero pivot
abbrev pub zero_diag : (K : Kind) → Diag → K.Elem → Bool
zero_diag K NonUnit c = K.is_zero c
zero_diag K Unit c = false

module _ (K : Kind) (y : System) (begin : K.Elem → K.Elem) (a : List K.Cell) where
  -- unknown q of line l, with the k unknowns before it solved
  abbrev pub unknown_value : ℕ → ℕ → ℕ → List K.Cell → K.Elem
  unknown_value k q l s =
      by_diag K y.diag (coefficient K y a q q)
      (minus_terms K (begin (elem K s y.b q l)) (λ p. K.mul (coefficient K y a q p) (elem K s y.b p l)) (least_solved y.last y.b.rows k) k)

  -- the unknown of line l that is solved after k others
  unfoldable pub solve_unknown : ℕ → ℕ → List K.Cell → List K.Cell
  solve_unknown k l s = K.put s (index y.b (in_order y.last y.b.rows k) l) (unknown_value k (in_order y.last y.b.rows k) l s)

  -- the unknown after k others in the first n lines, and the first m unknowns there
  abbrev pub solve_across : ℕ → ℕ → List K.Cell → List K.Cell
  solve_across n k s = walk n (λ l. solve_unknown k l) s

  abbrev pub solve_unknowns : ℕ → ℕ → List K.Cell → List K.Cell
  solve_unknowns n m s = walk m (λ k. solve_across n k) s

-- whether the pivot of the unknown that is solved after k others is zero, and how many unknowns come before the first such
unfoldable pub zero_after : (K : Kind) → System → List K.Cell → ℕ → Bool
zero_after K y a k = zero_diag K y.diag (elem K a y.a (in_order y.last y.b.rows k) (in_order y.last y.b.rows k))

abbrev pub first_zero : (K : Kind) → System → List K.Cell → ℕ
first_zero K y a = first_at y.b.rows (zero_after K y a)

-- whether a solve stops where k unknowns come before the first zero pivot: there is a line, and not all unknowns do
unfoldable pub stops : System → ℕ → Bool
stops y k = ltb 0 y.b.cols && ltb k y.b.rows

-- what it then answers, and how many of n lines it has solved
abbrev pub answered : Bool → Answer
answered stopped = cond stopped Singular Done

abbrev pub lines_solved : Side → Bool → ℕ → ℕ
lines_solved Left stopped n = cond stopped 1 n
lines_solved Right stopped n = n

-- what a solve answers, and what it leaves
pub record Solved (K : Kind) (y : System) (begin : K.Elem → K.Elem) (a s₀ : List K.Cell) (r : Answer) (s : List K.Cell) : Type 0 where
  pub answer : r ≡ answered (stops y (first_zero K y a))
  pub slab : s ≡ solve_unknowns K y begin a (lines_solved y.side (stops y (first_zero K y a)) y.b.cols) (first_zero K y a) s₀
