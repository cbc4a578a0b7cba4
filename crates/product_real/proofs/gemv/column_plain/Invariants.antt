-- The rows before i are done.
use Rattle.std.proofs.Common.{◌≡◌}
use Rattle.number.specs.Kind.{kind}
use Rattle.slabs.specs.Update.{everywhere, update_rows}
use Rattle.product_plan.specs.Work.{plan_work}
use Rattle.product_real.proofs.gemv.column_plain.Given as goal

abbrev pub invariant-loop-i : goal.invariant-loop-i
invariant-loop-i g l = let n = g.R.Number.numbers in l.c ≡ update_rows (kind n) l.plan.target everywhere (plan_work n g.R.Number.multipliers l.plan l.ops) l.i l.fn.c
