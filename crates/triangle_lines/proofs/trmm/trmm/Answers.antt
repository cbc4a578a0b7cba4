-- A refused call leaves its slab; a passed one multiplies B in its place (ProductKernels: trmm-refused, trmm-done).
use Rattle.std.proofs.Common.{refl}
use Rattle.number.specs.Kind.{kind}
use Rattle.triangle_plan.proofs.Systems.{ready_made}
use Rattle.triangle_plan.proofs.Judged.{matrix-runs}
use Rattle.triangle_plan.proofs.ProductKernels.{trmm-refused, trmm-done}
use Rattle.triangle_lines.proofs.trmm.trmm.Goals as goal

pub multiply-requires-clause-ready : goal.multiply-requires-clause-ready
multiply-requires-clause-ready g c =
    let p = c.args in
    ready_made p.uplo p.trans p.diag _ _ _ _ p.side _ _ (matrix-runs _ _ _ _ _ _ _ (rw (c.count-la.ensures.counted, c.count-lb.ensures.counted) at c.check_trmm-answer.ensures) c.passed.ensures c.if-passed.true) c.system_of-sys.ensures refl

pub returns-then-passed : goal.returns-then-passed
returns-then-passed g c =
    let m = g.met.N.Number.laws in
    trmm-done (kind g.N.Number.numbers) m.laws.slab m.swaps m.commutes _ _ _ _ _ _ _ _ _ (rw (c.count-la.ensures.counted, c.count-lb.ensures.counted) at c.check_trmm-answer.ensures) c.passed.ensures c.if-passed.true _ c.system_of-sys.ensures _ c.multiply.ensures

pub returns-else-passed : goal.returns-else-passed
returns-else-passed g c =
    let m = g.met.N.Number.laws in
    trmm-refused (kind g.N.Number.numbers) m.laws.slab m.swaps m.commutes _ _ _ _ _ _ _ _ _ (rw (c.count-la.ensures.counted, c.count-lb.ensures.counted) at c.check_trmm-answer.ensures) c.passed.ensures c.if-passed.false
