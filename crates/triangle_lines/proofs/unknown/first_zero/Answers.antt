-- The loop stops at the first zero pivot, or past all (Solves: first_found, first_nowhere).
use Rattle.std.proofs.Common.{arith}
use Rattle.triangle_plan.proofs.Solves.{first_found, first_nowhere}
use Rattle.triangle_lines.proofs.unknown.first_zero.Goals as goal

pub returns-then-meets_zero : goal.returns-then-meets_zero
returns-then-meets_zero g c = first_found _ _ _ _ (omega arith) c.loop-k.invariant c.meets_zero.ensures c.if-meets_zero.true

pub returns : goal.returns
returns g c = first_nowhere _ _ _ (omega arith) c.loop-k.invariant
