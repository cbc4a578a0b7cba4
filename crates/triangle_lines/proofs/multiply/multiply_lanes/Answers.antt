-- Elements worked out before any is written are multiplied one by one (Lines: multiply-lanes-is).
use Rattle.std.proofs.Common.{refl}
use Rattle.number.specs.Kind.{kind}
use Rattle.triangle_plan.specs.Triangles.{times_if}
use Rattle.triangle_plan.proofs.Lines.{multiply-lanes-is}
use Rattle.triangle_lines.proofs.multiply.multiply_lanes.Goals as goal

pub returns : goal.returns
returns g c =
    let p = c.args in
    let r = c.requires.ready in
    let K = kind g.N.Number.numbers in
    multiply-lanes-is K g.met.N.Number.laws.laws.slab p.sys p.a.now (times_if K p.alpha) r.ready.apart g.row.W p.k p.l p.first _ _ _ _ _ p.b.now _ r.unknown r.lines c.requires.last refl refl c.in_order-q.ensures.0 c.line_sums-sums.ensures c.times_lanes-xs.ensures c.put_lanes.ensures
