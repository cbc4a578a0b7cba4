-- Number after number is put into its row (WalkLaws: walk_first, walk_on).
use Rattle.std.proofs.Common.{◌≡◌, length, rules, arith}
use Rattle.number.specs.Kind.{kind}
use Rattle.std.proofs.lemmas.List.{get_or_default}
use Rattle.triangle_real.proofs.Steps.{put_first, put_on}
use Rattle.triangle_real.proofs.rows.put_rows.Goals as goal

pub loop-i-init : goal.loop-i-init
loop-i-init g c = let p = c.args in put_first (kind g.R.Number.numbers) p.last p.v p.q p.first p.xs p.b.now

pub loop-i-preserved : goal.loop-i-preserved
loop-i-preserved g c =
    let p = c.args in
    let n = g.R.Number.numbers in
    let many : length p.xs ≡ 8 = search rules in
    let t = c.in_order-t in
    put_on (kind n) p.last p.v p.q p.first p.xs p.b.now c.loop-i.i _ _ c.loop-i.auto.i c.loop-i.invariant
    (rw (c.place-at.ensures.is, get_or_default p.xs t.result c.index-xs-t.result n.zero (omega (arith, t.ensures.1)), t.ensures.0) at c.put.ensures)
