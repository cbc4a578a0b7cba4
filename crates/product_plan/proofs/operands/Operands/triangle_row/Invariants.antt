-- The triangle's elements before j are done.
use Rattle.std.proofs.Common.{◌≡◌}
use Rattle.number.specs.Kind.{kind}
use Rattle.view.specs.Triangle.{first_col}
use Rattle.slabs.specs.Update.{span}
use Rattle.product_plan.specs.Work.{plan_work}
use Rattle.product_plan.proofs.operands.Operands.triangle_row.Given as goal

abbrev pub invariant-loop-j : goal.invariant-loop-j
invariant-loop-j g l = let K = kind g.N.Number.numbers in l.c ≡ span K l.plan.target (plan_work g.N.Number.numbers g.N.Number.multipliers l.plan l.self) l.i (first_col l.fn.uplo l.i) l.j l.fn.c
