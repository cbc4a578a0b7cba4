-- Number after number is put into its column (Steps: put_first, put_on).
use Rattle.std.proofs.Common.{◌≡◌, length, rules, arith}
use Rattle.number.specs.Kind.{kind}
use Rattle.std.proofs.lemmas.List.{get_or_default}
use Rattle.triangle_lines.proofs.Steps.{put_first, put_on}
use Rattle.triangle_lines.proofs.lanes.put_lanes.Goals as goal

pub loop-t-init : goal.loop-t-init
loop-t-init g c = let p = c.args in put_first (kind g.N.Number.numbers) p.v p.q p.l p.first p.xs p.b.now

pub place-at-requires : goal.place-at-requires
place-at-requires g c = rw (g.met.N.Number.laws.counted c.loop-t.auto.b) (c.requires.inside _ (omega arith))

pub loop-t-preserved : goal.loop-t-preserved
loop-t-preserved g c =
    let p = c.args in
    let n = g.N.Number.numbers in
    let many : length p.xs ≡ g.row.W = search rules in
    put_on (kind n) p.v p.q p.l p.first p.xs p.b.now c.loop-t.t _ _ c.loop-t.auto.t c.loop-t.invariant
    (rw (c.place-at.ensures.is, get_or_default p.xs c.loop-t.t c.index-xs-t.result n.zero (omega arith)) at c.put.ensures)
