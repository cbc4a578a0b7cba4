-- No zero pivot so far, and the unknowns so far solved (Solves: vector_stopped, vector_done; WalkLaws: walk-next, walk_one).
use Rattle.std.proofs.Common.{arith}
use Rattle.number.specs.Kind.{kind}
use Rattle.triangle_plan.proofs.WalkLaws.{walk_start, walk-next, walk_one, walk_end}
use Rattle.triangle_plan.proofs.Solves.{clear-start, clear_next, first_found, first_nowhere, vector_stopped, vector_done}
use Rattle.triangle_lines.proofs.trsv.solve_vector.Goals as goal

pub loop-k-init : goal.loop-k-init
loop-k-init g c = (clear-start _, walk_start _ _)

pub returns-then-meets_zero : goal.returns-then-meets_zero
returns-then-meets_zero g c =
    let i = c.loop-k.invariant in
    vector_stopped (kind g.N.Number.numbers) _ _ _ _ _ _ c.requires.one (first_found _ _ _ _ (omega arith) i.0 c.meets_zero.ensures c.if-meets_zero.true) i.1 (omega arith)

pub loop-k-preserved : goal.loop-k-preserved
loop-k-preserved g c =
    let i = c.loop-k.invariant in
    (clear_next _ _ _ i.0 c.meets_zero.ensures c.if-meets_zero.false, walk-next _ _ _ _ _ i.1 (walk_one _ _ _ c.solve_lanes.ensures))

pub returns : goal.returns
returns g c =
    let i = c.loop-k.invariant in
    vector_done (kind g.N.Number.numbers) _ _ _ _ _ _ c.requires.one (first_nowhere _ _ _ (omega arith) i.0) (walk_end _ _ _ c.args.sys.b.rows _ (omega (arith, c.loop-k.auto.k-end)) (omega arith) i.1) (omega arith)
