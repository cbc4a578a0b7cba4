-- The solve of the system, after alpha on the right, is the side's (Solves: solved-gives; SolveKernels: sided-gives).
use Rattle.number.specs.Kind.{kind}
use Rattle.triangle_plan.proofs.Systems.{ready_made}
use Rattle.triangle_plan.proofs.Solves.{solved-gives}
use Rattle.triangle_plan.proofs.SolveKernels.{sided-gives}
use Rattle.triangle_lines.proofs.trsm.sided.Goals as goal

pub solve_lines-requires-clause-ready : goal.solve_lines-requires-clause-ready
solve_lines-requires-clause-ready g c =
    let p = c.args in
    ready_made p.uplo p.t p.diag _ _ _ _ p.side _ _ c.requires.ready c.system_of-sys.ensures (g.met.N.Number.laws.counted c.scale_right.auto.b)

pub returns : goal.returns
returns g c =
    let p = c.args in
    let K = kind g.N.Number.numbers in
    let m = g.met.N.Number.laws in
    sided-gives K p.side p.uplo p.t p.diag p.alpha _ _ _ _ _ _ _ c.scale_right.ensures (rw c.is_left.ensures at c.then_some-begin.ensures)
    (solved-gives K m.commutes p.uplo p.t p.diag _ _ _ _ _ _ _ m.laws.slab m.swaps p.side _ c.system_of-sys.ensures c.requires.ready.distinct c.solve_lines.ensures)
