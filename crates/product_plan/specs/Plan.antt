-- The product that all seven routines are: where its factors are read, which elements it writes, and what it leaves.
use Rattle.std.specs.Prelude.{ℕ, ◌+◌, ◌≤◌, ◌<◌, Bool, false, cond, List, ◌≡◌, ltb}
use Rattle.number.specs.Kind.{Kind}
use Rattle.view.specs.declared.View.{View}
use Rattle.view.specs.Steps.{Accepted}
use Rattle.slabs.specs.Run.{elem_conj}
use Rattle.slabs.specs.Elem.{Within}
use Rattle.slabs.specs.Update as Update
use Rattle.blas.specs.Matrix.{Matrix, sum, accumulate}
use Rattle.product_plan.specs.declared.plan.Factors.{Factors}
use Rattle.product_plan.specs.declared.plan.Plan.{Plan}
use Rattle.product_plan.specs.declared.plan.Turn.{Turn}
use Rattle.product_plan.specs.declared.plan.Turn.TheVariants.{AtRow, PastRow, AtCol, PastCol}
use Rattle.product_plan.specs.declared.plan.Folded.{Folded}

-- ---- sums

-- term p of element (i, j)
abbrev pub term : (K : Kind) → Factors → List K.Cell → List K.Cell → ℕ → ℕ → ℕ → K.Elem
term K f a b i j p = K.mul (elem_conj K f.left_conj a f.left i p) (elem_conj K f.right_conj b f.right p j)

-- ---- what a plan does

-- element (i, j) of the product
abbrev pub product : (K : Kind) → Plan → List K.Cell → List K.Cell → Matrix K
product K plan a b i j = sum K plan.terms (term K plan.factors a b i j)

-- the number of terms before the turn
abbrev pub terms_before : Turn → ℕ → ℕ → ℕ
terms_before AtRow i j = i
terms_before PastRow i j = i + 1
terms_before AtCol i j = j
terms_before PastCol i j = j + 1

abbrev pub folded_term : (K : Kind) → Folded → List K.Cell → List K.Cell → ℕ → ℕ → ℕ → K.Elem
folded_term K plan a b i j p = cond (ltb p (terms_before plan.turn i j)) (term K plan.head a b i j p) (term K plan.tail a b i j p)

abbrev pub folded_product : (K : Kind) → Folded → List K.Cell → List K.Cell → Matrix K
folded_product K plan a b i j = sum K plan.terms (folded_term K plan a b i j)

-- what becomes of an element of the target
abbrev pub plan_change : (K : Kind) → Plan → (K.Elem → K.Elem) → (K.Elem → K.Elem) → List K.Cell → List K.Cell → Update.Change K
plan_change K plan by_beta by_alpha a b = accumulate K by_beta by_alpha (product K plan a b)

abbrev pub folded_change : (K : Kind) → Folded → (K.Elem → K.Elem) → (K.Elem → K.Elem) → List K.Cell → List K.Cell → Update.Change K
folded_change K plan by_beta by_alpha a b = accumulate K by_beta by_alpha (folded_product K plan a b)

-- a target across the plan's, unless it stands as the plan's does: its element (i, j) is the plan's (j, i)
abbrev pub across : (K : Kind) → Bool → Matrix K → Matrix K
across K straight m i j = m (cond straight i j) (cond straight j i)

abbrev pub across_change : (K : Kind) → Bool → Folded → (K.Elem → K.Elem) → (K.Elem → K.Elem) → List K.Cell → List K.Cell → Update.Change K
across_change K straight plan by_beta by_alpha a b = accumulate K by_beta by_alpha (across K straight (folded_product K plan a b))

-- ---- what the engine asks of its caller: that it reads and writes inside the slabs, of la, lb and lc elements

-- the factors of every term of m rows and n columns, k terms each
pub record Reads (f : Factors) (la lb m n k : ℕ) : Type 0 where
  pub left : (i p : ℕ) → i < m → p < k → Within f.left la i p
  pub right : (p j : ℕ) → p < k → j < n → Within f.right lb p j

-- those of the terms of element (i, j) from `from` to before `end`
pub record FactorsWithin (f : Factors) (la lb i j from end : ℕ) : Type 0 where
  pub ordered : from ≤ end
  pub left : (p : ℕ) → p < end → Within f.left la i p
  pub right : (p : ℕ) → p < end → Within f.right lb p j

pub record PlanReady (plan : Plan) (la lb lc : ℕ) : Type 0 where
  pub target : Accepted plan.target lc
  pub reads : Reads plan.factors la lb plan.target.rows plan.target.cols plan.terms

pub record FoldedReads (plan : Folded) (la lb : ℕ) : Type 0 where
  pub head : Reads plan.head la lb plan.target.rows plan.target.cols plan.terms
  pub tail : Reads plan.tail la lb plan.target.rows plan.target.cols plan.terms
  pub turns : (i j : ℕ) → i < plan.target.rows → j < plan.target.cols → terms_before plan.turn i j ≤ plan.terms

pub record FoldedReady (plan : Folded) (la lb lc : ℕ) : Type 0 where
  pub target : Accepted plan.target lc
  pub reads : FoldedReads plan la lb

-- the same with a target v of its own, which stands as the plan's does or across it
pub record AcrossReady (straight : Bool) (plan : Folded) (la lb : ℕ) (v : View) (lc : ℕ) : Type 0 where
  pub target : Accepted v lc
  pub reads : FoldedReads plan la lb
  pub row : (i j : ℕ) → i < v.rows → j < v.cols → cond straight i j < plan.target.rows
  pub col : (i j : ℕ) → i < v.rows → j < v.cols → cond straight j i < plan.target.cols

-- the left operand is folded: the turn is the same in all columns of a row; no right factor is conjugated
pub record ByRow (plan : Folded) : Type 0 where
  pub same : (i j : ℕ) → terms_before plan.turn i 0 ≡ terms_before plan.turn i j
  pub room : (i : ℕ) → i < plan.target.rows → terms_before plan.turn i 0 ≤ plan.terms
  pub head_plain : plan.head.right_conj ≡ false
  pub tail-plain : plan.tail.right_conj ≡ false
