-- Unknowns worked out before any is written are solved one by one (Lines: solve-lanes-is).
use Rattle.std.proofs.Common.{refl}
use Rattle.number.specs.Kind.{kind}
use Rattle.triangle_plan.specs.Triangles.{times_if}
use Rattle.triangle_plan.proofs.Lines.{solve-lanes-is}
use Rattle.triangle_plan.proofs.Runs.{lanes_then}
use Rattle.triangle_lines.proofs.unknown.solve_lanes.Goals as goal

pub returns : goal.returns
returns g c =
    let p = c.args in
    let r = c.requires.ready in
    let o = c.requires.order in
    let K = kind g.N.Number.numbers in
    solve-lanes-is K g.met.N.Number.laws.laws.slab p.sys (times_if K p.alpha) p.a.now r.ready.apart g.row.W p.k p.l p.first p.end _ _ _ _ _ _ p.b.now _ r.unknown r.lines o.0 o.1 refl c.in_order-q.ensures.0 c.least_solved-from.ensures.0
    (lanes_then K (times_if K p.alpha) _ _ _ c.lanes_at-sides.ensures c.times_lanes-xs.ensures) c.reduce-rest.ensures c.by_pivot-ys.ensures c.put_lanes.ensures
