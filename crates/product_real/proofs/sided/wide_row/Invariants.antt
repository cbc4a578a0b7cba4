-- The columns before j are done, but none after the last.
use Rattle.std.proofs.Common.{◌≡◌, ◌-◌, min}
use Rattle.number.specs.Kind.{kind}
use Rattle.slabs.specs.Update.{span}
use Rattle.product_plan.specs.Work.{folded_work}
use Rattle.product_real.proofs.sided.wide_row.Given as goal

abbrev pub invariant-loop-j : goal.invariant-loop-j
invariant-loop-j g l = let n = g.R.Number.numbers in l.c ≡ span (kind n) l.plan.target (folded_work n g.R.Number.multipliers l.plan l.ops) l.i 0 (min l.j l.n) l.fn.c

abbrev pub decreases-loop-j : goal.decreases-loop-j
decreases-loop-j g l = l.n - l.j
