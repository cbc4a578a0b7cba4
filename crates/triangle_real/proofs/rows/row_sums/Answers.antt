-- The rows' pieces are their sums (Rows: rows_behind, rows_before).
use Rattle.std.proofs.Common.{refl}
use Rattle.number.specs.Kind.{kind}
use Rattle.triangle_plan.proofs.Rows.{rows_behind, rows_before}
use Rattle.triangle_real.proofs.rows.row_sums.Goals as goal

pub returns-then-sys : goal.returns-then-sys
returns-then-sys g c =
    let p = c.args in
    rows_behind (kind g.R.Number.numbers) p.sys p.a.now p.b.now p.q _ _ _ c.if-sys.true refl c.requires.room c.own_first_eight-near.ensures c.add_rows.ensures

pub returns-else-sys : goal.returns-else-sys
returns-else-sys g c =
    let p = c.args in
    rows_before (kind g.R.Number.numbers) p.sys p.a.now p.b.now p.q _ _ _ _ c.if-sys.false c.zeros.ensures refl c.add_rows-far.ensures c.own_last_eight.ensures
