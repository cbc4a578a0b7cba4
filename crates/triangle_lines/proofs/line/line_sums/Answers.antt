-- The own terms and the runs behind them, or the runs before them first (LineSums: sums-behind, sums-before).
use Rattle.std.proofs.Common.{refl}
use Rattle.number.specs.Kind.{kind}
use Rattle.triangle_plan.proofs.LineSums.{sums-behind, sums-before}
use Rattle.triangle_lines.proofs.line.line_sums.Goals as goal

pub returns-then-sys : goal.returns-then-sys
returns-then-sys g c =
    let p = c.args in
    sums-behind (kind g.N.Number.numbers) p.sys p.a.now p.b.now p.q p.l g.row.W _ _ _ _ c.own_weight-weight.ensures c.zeros-none.ensures refl _ _ c.if-sys.true refl c.plus_lanes-own.ensures c.add_run.ensures

pub returns-else-sys : goal.returns-else-sys
returns-else-sys g c =
    let p = c.args in
    sums-before (kind g.N.Number.numbers) p.sys p.a.now p.b.now p.q p.l g.row.W _ _ _ _ c.own_weight-weight.ensures c.zeros-none.ensures refl _ c.if-sys.false c.add_run-before.ensures c.plus_lanes.ensures
