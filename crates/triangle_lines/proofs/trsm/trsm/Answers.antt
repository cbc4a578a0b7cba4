-- A refused call leaves its slab; a passed one gives what its side's solve does (SolveKernels: trsm-refused, trsm-done).
use Rattle.number.specs.Kind.{kind}
use Rattle.triangle_plan.proofs.Judged.{matrix-runs}
use Rattle.triangle_plan.proofs.SolveKernels.{trsm-refused, trsm-done}
use Rattle.triangle_lines.proofs.trsm.trsm.Goals as goal

pub sided-requires-clause-ready : goal.sided-requires-clause-ready
sided-requires-clause-ready g c = matrix-runs _ _ _ _ _ _ _ (rw (c.count-la.ensures.counted, c.count-lb.ensures.counted) at c.check_trsm-answer.ensures) c.passed.ensures c.if-passed.true

pub returns-then-passed : goal.returns-then-passed
returns-then-passed g c = trsm-done (kind g.N.Number.numbers) _ _ _ _ _ _ _ _ _ (rw (c.count-la.ensures.counted, c.count-lb.ensures.counted) at c.check_trsm-answer.ensures) c.passed.ensures c.if-passed.true _ _ c.sided.ensures

pub returns-else-passed : goal.returns-else-passed
returns-else-passed g c = trsm-refused (kind g.N.Number.numbers) _ _ _ _ _ _ _ _ _ (rw (c.count-la.ensures.counted, c.count-lb.ensures.counted) at c.check_trsm-answer.ensures) c.passed.ensures c.if-passed.false
