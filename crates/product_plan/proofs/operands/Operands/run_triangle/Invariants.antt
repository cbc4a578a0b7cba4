-- The rows before i are done.
use Rattle.std.proofs.Common.{◌≡◌}
use Rattle.number.specs.Kind.{kind}
use Rattle.view.specs.Triangle.{in_triangle}
use Rattle.slabs.specs.Update.{update_rows}
use Rattle.product_plan.specs.Work.{plan_work}
use Rattle.product_plan.proofs.operands.Operands.run_triangle.Given as goal

abbrev pub invariant-loop-i : goal.invariant-loop-i
invariant-loop-i g l = let K = kind g.N.Number.numbers in l.c ≡ update_rows K l.plan.target (in_triangle l.uplo) (plan_work g.N.Number.numbers g.N.Number.multipliers l.plan l.self) l.i l.fn.c
