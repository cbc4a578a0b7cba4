-- A block of lines more, and the last one (WalkLaws: walk_block).
use Rattle.std.proofs.Common.{◌+◌, ◌-◌, ◌≡◌, min, arith}
use Rattle.triangle_plan.proofs.WalkLaws.{walk_block}
use Rattle.triangle_lines.proofs.multiply.multiply_across.Goals as goal

pub loop-l-preserved : goal.loop-l-preserved
loop-l-preserved g c =
    let at = c.loop-l.l in
    let n = c.args.sys.b.cols in
    let from = c.min-from.result in
    let here : from + (at - from) ≡ min at n = omega (arith, c.min-from.ensures) in
    let next : min at n + (g.row.W - (at - from)) ≡ min (at + g.row.W) n = omega (arith, c.min-from.ensures, c.requires.lines.room) in
    walk_block _ _ (min at n) (min (at + g.row.W) n) from (at - from) (g.row.W - (at - from)) _ _ here next c.loop-l.invariant c.multiply_lanes.ensures

pub returns-2 : goal.returns-2
returns-2 g c =
    let at = c.loop-l.l in
    let n = c.args.sys.b.cols in
    let from = c.min-from.result in
    let here : from + (at - from) ≡ min at n = omega (arith, c.min-from.ensures) in
    let next : min at n + (g.row.W - (at - from)) ≡ n = omega (arith, c.min-from.ensures, c.requires.lines.room) in
    walk_block _ _ (min at n) n from (at - from) (g.row.W - (at - from)) _ _ here next c.loop-l.invariant c.multiply_lanes.ensures
