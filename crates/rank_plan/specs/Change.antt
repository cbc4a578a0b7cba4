-- What becomes of an element of the target, over any number kind.
use Rattle.std.specs.Prelude.{ℕ, List}
use Rattle.number.specs.Kind.{Kind}
use Rattle.slabs.specs.Run.{elem_conj}
use Rattle.slabs.specs.Update.{Change}
use Rattle.blas.specs.Matrix.{Matrix, pair_sum}
use Rattle.rank_plan.specs.declared.plan.Plan.{Plan}

-- ---- her and her2: w and w' are the weighed elements i of x and y

abbrev pub add_one : (K : Kind) → K.Elem → Matrix K → ℕ → K.Elem → K.Elem
add_one K w x j old = K.add old (K.mul w (K.conj (x j 0)))

abbrev pub add_two : (K : Kind) → K.Elem → K.Elem → Matrix K → Matrix K → ℕ → K.Elem → K.Elem
add_two K w w' x y j old = K.add (K.add old (K.mul w (K.conj (y j 0)))) (K.mul w' (K.conj (x j 0)))

-- ---- syr2k and her2k

-- what weighs the left factors, those of A and those of B, and the sum of the products
pub record Weights (Elem : Type 0) : Type 0 where
  pub left_a : Elem → Elem
  pub left_b : Elem → Elem
  pub sum : Elem → Elem

-- syr2k: alpha weighs the sum
abbrev pub sum_weighed : (K : Kind) → K.Elem → Weights K.Elem
sum_weighed K alpha = record { left_a = λ x. x; left_b = λ x. x; sum = K.mul alpha }

-- her2k: alpha and its conjugate weigh the left factors
abbrev pub factors_weighed : (K : Kind) → K.Elem → Weights K.Elem
factors_weighed K alpha = record { left_a = K.mul alpha; left_b = K.mul (K.conj alpha); sum = λ x. x }

module _ (K : Kind) (plan : Plan) (a b : List K.Cell) where
  -- the factors of the two products
  abbrev pub left_matrix_a : Matrix K
  left_matrix_a = elem_conj K plan.left_conj a plan.left_a

  abbrev pub right_matrix_b : Matrix K
  right_matrix_b = elem_conj K plan.right_conj b plan.right_b

  abbrev pub left_matrix_b : Matrix K
  left_matrix_b = elem_conj K plan.left_conj b plan.left_b

  abbrev pub right_matrix_a : Matrix K
  right_matrix_a = elem_conj K plan.right_conj a plan.right_a

  module _ (w : Weights K.Elem) where
    -- the two products at p
    abbrev pub first_at : ℕ → ℕ → ℕ → K.Elem
    first_at i j p = K.mul (w.left_a (left_matrix_a i p)) (right_matrix_b p j)

    abbrev pub second_at : ℕ → ℕ → ℕ → K.Elem
    second_at i j p = K.mul (w.left_b (left_matrix_b i p)) (right_matrix_a p j)

    -- a sum with both added, one after the other, and the sum of the first n pairs
    abbrev pub pair_at : ℕ → ℕ → ℕ → K.Elem → K.Elem
    pair_at i j p sum = K.add (K.add sum (first_at i j p)) (second_at i j p)

    abbrev pub pairs_at : ℕ → ℕ → ℕ → K.Elem
    pairs_at i j n = pair_sum K n (first_at i j) (second_at i j)

    -- `by_beta` is what beta does to an element
    abbrev pub paired_change : (K.Elem → K.Elem) → Change K
    paired_change by_beta i j old = K.add (by_beta old) (w.sum (pairs_at i j plan.terms))

  abbrev pub syr2k_change : K.Elem → (K.Elem → K.Elem) → Change K
  syr2k_change alpha by_beta = paired_change (sum_weighed K alpha) by_beta

  abbrev pub her2k_change : K.Elem → (K.Elem → K.Elem) → Change K
  her2k_change alpha by_beta = paired_change (factors_weighed K alpha) by_beta
