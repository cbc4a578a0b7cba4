-- Eight elements worked out before any is written are multiplied one by one (Rows: rows-eight-is).
use Rattle.std.proofs.Common.{refl, arith}
use Rattle.number.specs.Kind.{kind}
use Rattle.triangle_plan.proofs.Rows.{rows-eight-is}
use Rattle.triangle_real.proofs.rows.multiply_block.Goals as goal

pub row_sums-xs-requires : goal.row_sums-xs-requires
row_sums-xs-requires g c =
    let r = c.requires.0 in
    (g.met.R.Number.fit 8 (omega arith), record { ready = r.ready; one = r.one; room = c.eight_from-q.ensures.1 })

pub put_rows-requires : goal.put_rows-requires
put_rows-requires g c =
    let r = c.requires.0 in
    (g.met.R.Number.fit 8 (omega arith), (record { fits = r.ready.b; row = omega (arith, c.eight_from-q.ensures.1); col = omega (arith, r.one) }, omega (arith, c.requires.1)))

pub returns : goal.returns
returns g c =
    let p = c.args in
    rows-eight-is (kind g.R.Number.numbers) g.met.R.Number.laws.laws.slab p.sys p.a.now _ _ p.k p.first _ _ _ _ p.b.now _ c.requires.0 c.requires.1 refl refl c.eight_from-q.ensures.0 c.row_sums-xs.ensures c.put_rows.ensures
