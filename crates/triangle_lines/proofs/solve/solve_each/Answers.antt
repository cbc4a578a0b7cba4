-- A line more, and the last one (WalkLaws: walk_block, walk_end).
use Rattle.std.proofs.Common.{◌+◌, arith}
use Rattle.triangle_plan.proofs.WalkLaws.{walk_block, walk_end}
use Rattle.triangle_lines.proofs.solve.solve_each.Goals as goal

pub loop-l-preserved : goal.loop-l-preserved
loop-l-preserved g c =
    let at = c.loop-l.l in walk_block _ _ at (at + 1) at 0 1 _ _ (omega arith) (omega arith) c.loop-l.invariant c.solve_lanes.ensures

pub returns : goal.returns
returns g c = walk_end _ _ _ _ _ c.loop-l.auto.l-end (omega arith) c.loop-l.invariant
