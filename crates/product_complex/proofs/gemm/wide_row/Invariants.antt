-- The columns before j are done, but none after the last.
use Rattle.std.proofs.Common.{◌≡◌, ◌-◌, min}
use Rattle.number.specs.Kind.{complex, complex_numbers}
use Rattle.number.specs.Scaling.{complex_multipliers}
use Rattle.slabs.specs.Update.{span}
use Rattle.product_plan.specs.Work.{plan_work}
use Rattle.product_complex.proofs.gemm.wide_row.Given as goal

abbrev pub invariant-loop-j : goal.invariant-loop-j
invariant-loop-j l = l.c ≡ span complex l.plan.target (plan_work complex_numbers complex_multipliers l.plan l.ops) l.i 0 (min l.j l.n) l.fn.c

abbrev pub decreases-loop-j : goal.decreases-loop-j
decreases-loop-j l = l.n - l.j
