-- The triangular product in place, element after element: each is worked out from the slab as it is then.
use Rattle.std.specs.Prelude.{ℕ, suc, ◌-◌, not, cond, List}
use Rattle.number.specs.Kind.{Kind}
use Rattle.view.specs.declared.Diag.{Diag}
use Rattle.view.specs.declared.Diag.TheVariants.{NonUnit, Unit}
use Rattle.view.specs.Place.{index}
use Rattle.slabs.specs.Elem.{elem}
use Rattle.slabs.specs.Run.{plus_terms}
use Rattle.blas.specs.Substitution.{in_order}
use Rattle.triangle_plan.specs.declared.System.{System}
use Rattle.triangle_plan.specs.Triangles.{coefficient}
use Rattle.triangle_plan.specs.Walk.{walk}

-- a diagonal element c, or ONE
abbrev pub own_diag : (K : Kind) → Diag → K.Elem → K.Elem
own_diag K NonUnit c = c
own_diag K Unit c = K.one

module _ (K : Kind) (y : System) (a : List K.Cell) where
  -- what element p of line l brings into element q, and what element q brings itself
  abbrev pub line_term : List K.Cell → ℕ → ℕ → ℕ → K.Elem
  line_term s q l p = K.mul (coefficient K y a q p) (elem K s y.b p l)

  abbrev pub own : List K.Cell → ℕ → ℕ → K.Elem
  own s q l = K.mul (own_diag K y.diag (coefficient K y a q q)) (elem K s y.b q l)

  -- its own term and n behind it; and x, n terms before it and its own
  abbrev pub own_first : List K.Cell → ℕ → ℕ → ℕ → K.Elem
  own_first s q l n = plus_terms K (K.add K.zero (own s q l)) (line_term s q l) (suc q) n

  abbrev pub own_last : List K.Cell → ℕ → ℕ → K.Elem → ℕ → ℕ → K.Elem
  own_last s q l x from n = K.add (plus_terms K x (line_term s q l) from n) (own s q l)

  -- element q of line l of the product: its own term before those behind it, or after those before it
  unfoldable pub line_sum : List K.Cell → ℕ → ℕ → K.Elem
  line_sum s q l = cond y.last (own_first s q l (y.b.rows - suc q)) (own_last s q l K.zero 0 q)

  module _ (begin : K.Elem → K.Elem) where
    -- the element of line l that is multiplied after k others: against solving order
    unfoldable pub multiply_one : ℕ → ℕ → List K.Cell → List K.Cell
    multiply_one k l s =
        K.put s (index y.b (in_order (not y.last) y.b.rows k) l) (begin (line_sum s (in_order (not y.last) y.b.rows k) l))

    -- the first m elements of line l, the element after k others in every line, and all of B
    abbrev pub multiply_line : ℕ → ℕ → List K.Cell → List K.Cell
    multiply_line l m s = walk m (λ k. multiply_one k l) s

    abbrev pub multiply_across : ℕ → List K.Cell → List K.Cell
    multiply_across k s = walk y.b.cols (λ l. multiply_one k l) s

    abbrev pub multiply_all : List K.Cell → List K.Cell
    multiply_all s = walk y.b.cols (λ l. multiply_line l y.b.rows) s
