-- The elements before j are done.
use Rattle.std.proofs.Common.{◌≡◌}
use Rattle.number.specs.Kind.{kind}
use Rattle.slabs.specs.Update.{everywhere, update_row}
use Rattle.product_plan.specs.Work.{across_work}
use Rattle.product_real.proofs.sided.across_row.Given as goal

abbrev pub invariant-loop-j : goal.invariant-loop-j
invariant-loop-j g l = let n = g.R.Number.numbers in l.c ≡ update_row (kind n) l.v everywhere (across_work n g.R.Number.multipliers l.straight l.plan l.ops) l.i l.j l.fn.c
