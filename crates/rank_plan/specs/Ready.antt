-- What the code asks of its caller: that it reads and writes inside the slabs, of la, lb and lc elements.
use Rattle.std.specs.Prelude.{ℕ, ◌≡◌}
use Rattle.view.specs.declared.View.{View}
use Rattle.view.specs.Steps.{Accepted}
use Rattle.rank_plan.specs.declared.plan.Plan.{Plan}

-- a view that fits its slab and has m rows and n columns
pub record Sized (v : View) (len m n : ℕ) : Type 0 where
  pub fits : Accepted v len
  pub rows : v.rows ≡ m
  pub cols : v.cols ≡ n

-- a square one
abbrev pub SquareWithin : View → ℕ → Type 0
SquareWithin v len = Sized v len v.rows v.rows

-- syr2k and her2k: the factors have the target's rows and the terms, or the terms and the target's columns
pub record Factors (plan : Plan) (la lb : ℕ) : Type 0 where
  pub left-a : Sized plan.left_a la plan.target.rows plan.terms
  pub right-b : Sized plan.right_b lb plan.terms plan.target.cols
  pub left-b : Sized plan.left_b lb plan.target.rows plan.terms
  pub right-a : Sized plan.right_a la plan.terms plan.target.cols

pub record Paired (plan : Plan) (la lb lc : ℕ) : Type 0 where
  pub factors : Factors plan la lb
  pub target : SquareWithin plan.target lc
