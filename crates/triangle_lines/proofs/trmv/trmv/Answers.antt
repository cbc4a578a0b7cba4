-- A refused call leaves its slab; a passed one multiplies x in its place (ProductKernels: trmv-refused, trmv-done).
use Rattle.std.proofs.Common.{refl}
use Rattle.number.specs.Kind.{kind}
use Rattle.view.specs.declared.Side.TheVariants.{Left}
use Rattle.triangle_plan.proofs.Systems.{ready_made}
use Rattle.triangle_plan.proofs.Judged.{vector-passed, vector-runs}
use Rattle.triangle_plan.proofs.ProductKernels.{trmv-refused, trmv-done}
use Rattle.triangle_lines.proofs.trmv.trmv.Goals as goal

pub column-requires : goal.column-requires
column-requires g c = vector-passed _ _ _ _ _ _ (rw (c.count-la.ensures.counted, c.count-lx.ensures.counted) at c.check_trmv-answer.ensures) c.passed.ensures c.if-passed.true

pub multiply_vector-requires-clause-ready : goal.multiply_vector-requires-clause-ready
multiply_vector-requires-clause-ready g c =
    let p = c.args in
    ready_made p.uplo p.trans p.diag _ _ _ _ Left _ _ (vector-runs _ _ _ _ _ _ (rw (c.count-la.ensures.counted, c.count-lx.ensures.counted) at c.check_trmv-answer.ensures) c.passed.ensures c.if-passed.true _ c.column.ensures) c.system_of-sys.ensures refl

pub returns-then-passed : goal.returns-then-passed
returns-then-passed g c =
    let m = g.met.N.Number.laws in
    trmv-done (kind g.N.Number.numbers) m.laws.slab m.swaps m.commutes _ _ _ _ _ _ _ (rw (c.count-la.ensures.counted, c.count-lx.ensures.counted) at c.check_trmv-answer.ensures) c.passed.ensures c.if-passed.true _ c.column.ensures _ c.system_of-sys.ensures _ c.multiply_vector.ensures

pub returns-else-passed : goal.returns-else-passed
returns-else-passed g c =
    let m = g.met.N.Number.laws in
    trmv-refused (kind g.N.Number.numbers) m.laws.slab m.swaps m.commutes _ _ _ _ _ _ _ (rw (c.count-la.ensures.counted, c.count-lx.ensures.counted) at c.check_trmv-answer.ensures) c.passed.ensures c.if-passed.false
