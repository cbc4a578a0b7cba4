-- The rows before i are done.
use Rattle.std.proofs.Common.{◌≡◌}
use Rattle.number.specs.Kind.{kind}
use Rattle.slabs.specs.Update.{everywhere, update_rows}
use Rattle.product_plan.specs.Work.{plan_work}
use Rattle.product_plan.proofs.operands.Operands.run.Given as goal

abbrev pub invariant-loop-i : goal.invariant-loop-i
invariant-loop-i g l = let K = kind g.N.Number.numbers in l.c ≡ update_rows K l.plan.target everywhere (plan_work g.N.Number.numbers g.N.Number.multipliers l.plan l.self) l.i l.fn.c
