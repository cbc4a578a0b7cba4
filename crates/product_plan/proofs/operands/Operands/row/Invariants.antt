-- The elements before j are done.
use Rattle.std.proofs.Common.{◌≡◌}
use Rattle.number.specs.Kind.{kind}
use Rattle.slabs.specs.Update.{everywhere, update_row}
use Rattle.product_plan.specs.Work.{plan_work}
use Rattle.product_plan.proofs.operands.Operands.row.Given as goal

abbrev pub invariant-loop-j : goal.invariant-loop-j
invariant-loop-j g l = let K = kind g.N.Number.numbers in l.c ≡ update_row K l.plan.target everywhere (plan_work g.N.Number.numbers g.N.Number.multipliers l.plan l.self) l.i l.j l.fn.c
