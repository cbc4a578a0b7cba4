-- What the triangular engine asks of its caller: that what it reads and writes is inside the slabs, of la and lb elements, and that what it
-- writes lies apart.
use Rattle.std.specs.Prelude.{ℕ, ◌+◌, ◌^◌, ◌≤◌, ◌<◌, ◌≡◌}
use Rattle.view.specs.declared.View.{View}
use Rattle.view.specs.declared.Side.{Side}
use Rattle.view.specs.Checks.{order_of}
use Rattle.view.specs.Steps.{Accepted}
use Rattle.slabs.specs.Distinct.{Distinct}
use Rattle.triangle_plan.specs.declared.System.{System}

-- the coefficients are square, of the order that a line has unknowns
pub record Pivots (y : System) (la : ℕ) : Type 0 where
  pub a : Accepted y.a la
  pub rows : y.a.rows ≡ y.b.rows
  pub cols : y.a.cols ≡ y.b.rows

pub record Ready (y : System) (la lb : ℕ) : Type 0 where
  pub pivots : Pivots y la
  pub b : Accepted y.b lb
  pub apart : Distinct y.b

-- unknown q, or the one that comes after q others, of line l
pub record ReadyAt (y : System) (la lb q l : ℕ) : Type 0 where
  pub ready : Ready y la lb
  pub unknown : q < y.b.rows
  pub line : l < y.b.cols

-- w lines side by side: some, and as many as memory has room for
pub record Wide (w : ℕ) : Type 0 where
  pub some : 0 < w
  pub few : w < 2 ^ 16

-- the same of w lines, from line l on
pub record LinesReady (y : System) (la lb q l w : ℕ) : Type 0 where
  pub ready : Ready y la lb
  pub wide : Wide w
  pub unknown : q < y.b.rows
  pub lines : l + w ≤ y.b.cols

-- w of n lines may be taken at a time: there are as many, or none at all
pub record Taken (w n : ℕ) : Type 0 where
  pub wide : Wide w
  pub room : 0 < n → w ≤ n

-- the eight unknowns from q on, or those that come after q others, of one line
pub record RowsReady (y : System) (la lb q : ℕ) : Type 0 where
  pub ready : Ready y la lb
  pub one : y.b.cols ≡ 1
  pub room : q + 8 ≤ y.b.rows

-- A is square, of the order that B's side has, and B's elements lie apart from each other
pub record Sided (side : Side) (va : View) (la : ℕ) (vb : View) (lb : ℕ) : Type 0 where
  pub a : Accepted va la
  pub b : Accepted vb lb
  pub rows : va.rows ≡ order_of side vb
  pub cols : va.cols ≡ order_of side vb
  pub distinct : Distinct vb
