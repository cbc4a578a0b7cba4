-- The elements before j are done.
use Rattle.std.proofs.Common.{◌≡◌}
use Rattle.number.specs.Kind.{complex, complex_numbers}
use Rattle.number.specs.Scaling.{complex_multipliers}
use Rattle.slabs.specs.Update.{everywhere, update_row}
use Rattle.product_plan.specs.Work.{folded_work}
use Rattle.product_complex.proofs.sided.right_row.Given as goal

abbrev pub invariant-loop-j : goal.invariant-loop-j
invariant-loop-j l = l.c ≡ update_row complex l.plan.target everywhere (folded_work complex_numbers complex_multipliers l.plan l.ops) l.i l.j l.fn.c
