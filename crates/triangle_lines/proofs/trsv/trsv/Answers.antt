-- A refused call leaves its slab; a passed one gives its system's solve (SolveKernels: trsv-refused, trsv-done).
use Rattle.std.proofs.Common.{refl}
use Rattle.number.specs.Kind.{kind}
use Rattle.view.specs.declared.Side.TheVariants.{Left}
use Rattle.triangle_plan.proofs.Systems.{ready_made}
use Rattle.triangle_plan.proofs.Judged.{vector-passed, vector-runs}
use Rattle.triangle_plan.proofs.Solves.{solved-gives}
use Rattle.triangle_plan.proofs.SolveKernels.{trsv-refused, trsv-done}
use Rattle.triangle_lines.proofs.trsv.trsv.Goals as goal

pub column-requires : goal.column-requires
column-requires g c = vector-passed _ _ _ _ _ _ (rw (c.count-la.ensures.counted, c.count-lx.ensures.counted) at c.check_trsv-answer.ensures) c.passed.ensures c.if-passed.true

pub solve_vector-requires-clause-ready : goal.solve_vector-requires-clause-ready
solve_vector-requires-clause-ready g c =
    let p = c.args in
    ready_made p.uplo p.trans p.diag _ _ _ _ Left _ _ (vector-runs _ _ _ _ _ _ (rw (c.count-la.ensures.counted, c.count-lx.ensures.counted) at c.check_trsv-answer.ensures) c.passed.ensures c.if-passed.true _ c.column.ensures) c.system_of-sys.ensures refl

pub returns-then-passed : goal.returns-then-passed
returns-then-passed g c =
    let p = c.args in
    let K = kind g.N.Number.numbers in
    let m = g.met.N.Number.laws in
    let runs = vector-runs _ _ _ _ _ _ (rw (c.count-la.ensures.counted, c.count-lx.ensures.counted) at c.check_trsv-answer.ensures) c.passed.ensures c.if-passed.true _ c.column.ensures in
    trsv-done K _ _ _ _ _ _ _ (rw (c.count-la.ensures.counted, c.count-lx.ensures.counted) at c.check_trsv-answer.ensures) c.passed.ensures c.if-passed.true _ c.column.ensures _ _
    (solved-gives K m.commutes p.uplo p.trans p.diag _ _ _ _ _ _ _ m.laws.slab m.swaps Left _ c.system_of-sys.ensures runs.distinct c.solve_vector.ensures)

pub returns-else-passed : goal.returns-else-passed
returns-else-passed g c = trsv-refused (kind g.N.Number.numbers) _ _ _ _ _ _ _ (rw (c.count-la.ensures.counted, c.count-lx.ensures.counted) at c.check_trsv-answer.ensures) c.passed.ensures c.if-passed.false
