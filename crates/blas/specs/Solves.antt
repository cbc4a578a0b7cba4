-- What a solve that its check does not refuse answers and leaves, unknown by unknown.
use Rattle.std.specs.Prelude.{ℕ, suc, ◌-◌, ◌<◌, Bool, true, false, not, cond, ◌&&◌, List, ◌≡◌, leb, eqb}
use Rattle.number.specs.Kind.{Kind}
use Rattle.view.specs.declared.View.{View}
use Rattle.view.specs.declared.Trans.{Trans}
use Rattle.view.specs.declared.UpLo.{UpLo}
use Rattle.view.specs.declared.Diag.{Diag}
use Rattle.view.specs.declared.Side.{Side}
use Rattle.view.specs.declared.Side.TheVariants.{Left, Right}
use Rattle.view.specs.Any.{any}
use Rattle.view.specs.Checks.{order_of}
use Rattle.slabs.specs.Update.{everywhere}
use Rattle.blas.specs.Matrix.{Matrix}
use Rattle.blas.specs.Outcome.{Outcome}
use Rattle.blas.specs.Elements.{Keeps}
use Rattle.blas.specs.Substitution.{unknown, brings, last_first, minus_terms, by_pivot, zero_pivot, singular}

-- how many lines of unknowns B has: Left its columns, Right its rows
abbrev pub lines_of : Side → View → ℕ
lines_of Left b = b.cols
lines_of Right b = b.rows

-- in solving order unknown p does not come after unknown q; `true` is where the last comes first
abbrev pub not_after : Bool → ℕ → ℕ → Bool
not_after true p q = leb q p
not_after false p q = leb p q

-- x less what the unknowns before q in solving order bring, by rising index: of m unknowns those above q where the last comes first, else those below q
abbrev pub minus_before : (K : Kind) → Bool → ℕ → ℕ → (ℕ → K.Elem) → K.Elem → K.Elem
minus_before K true m q f x = minus_terms K x f (suc q) (m - suc q)
minus_before K false m q f x = minus_terms K x f 0 q

-- unknown q comes before the first zero pivot in solving order: of the m unknowns none that does not come after q has a zero pivot
abbrev pub before_zero : (K : Kind) → Bool → ℕ → Diag → Matrix K → ℕ → Bool
before_zero K last m diag a q = not (any m (λ p. not_after last p q && zero_pivot K diag a p))

-- the lines that a solve works on before it meets a zero pivot: Left the first, Right every one
abbrev pub reached_line : Side → ℕ → Bool
reached_line Left l = eqb l 0
reached_line Right l = true

-- what trsm leaves of an element b that it does not solve: Left b as lent, Right alpha times b
abbrev pub unsolved : (K : Kind) → Side → K.Elem → K.Elem → K.Elem
unsolved K Left alpha b = b
unsolved K Right alpha b = K.mul alpha b

module _ (K : Kind) (side : Side) (uplo : UpLo) (t : Trans) (diag : Diag) (begin rest : K.Elem → K.Elem) (a : Matrix K) (v : View) where
  -- unknown q of line l by substitution: its right-hand side as lent, through `begin`, less what the unknowns before it bring as they are left, by the pivot
  abbrev pub formula : List K.Cell → List K.Cell → ℕ → ℕ → K.Elem
  formula entry after q l =
      by_pivot K diag t a q
      (minus_before K (last_first side uplo t) (order_of side v) q (λ p. brings K side t a q p (unknown K side after v p l)) (begin (unknown K side entry v q l)))

  -- whether unknown q of line l is solved: on refusal 5 those before the first zero pivot, in the lines reached; else every one
  abbrev pub is_solved : ℕ → ℕ → Bool
  is_solved q l = cond (singular K side uplo t diag begin a v) (before_zero K (last_first side uplo t) (order_of side v) diag a q && reached_line side l) true

  -- The answer is 5 where the system is singular, else 0. Each solved unknown is its formula over the slab as it is left; each other shown element is
  -- `rest` of what was lent there; every number of the slab that belongs to no shown element is as lent.
  pub record Solves (entry : List K.Cell) (o : Outcome K) : Type 0 where
    pub answer : o.answer ≡ cond (singular K side uplo t diag begin a v) 5 0
    pub shown : (q l : ℕ) → q < order_of side v → l < lines_of side v
        → unknown K side o.slab v q l ≡ cond (is_solved q l) (formula entry o.slab q l) (rest (unknown K side entry v q l))
    pub kept : Keeps K v everywhere entry o.slab
