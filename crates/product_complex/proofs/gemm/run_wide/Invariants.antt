-- The rows before i are done.
use Rattle.std.proofs.Common.{◌≡◌}
use Rattle.number.specs.Kind.{complex, complex_numbers}
use Rattle.number.specs.Scaling.{complex_multipliers}
use Rattle.slabs.specs.Update.{everywhere, update_rows}
use Rattle.product_plan.specs.Work.{plan_work}
use Rattle.product_complex.proofs.gemm.run_wide.Given as goal

abbrev pub invariant-loop-i : goal.invariant-loop-i
invariant-loop-i l = l.c ≡ update_rows complex l.plan.target everywhere (plan_work complex_numbers complex_multipliers l.plan l.ops) l.i l.fn.c
