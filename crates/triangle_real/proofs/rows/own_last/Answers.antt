-- The run before the own term, then that term (LineSums: own-last-is).
use Rattle.std.proofs.Common.{arith}
use Rattle.number.specs.Kind.{kind}
use Rattle.triangle_plan.proofs.LineSums.{own-last-is}
use Rattle.triangle_real.proofs.Steps.{only_lane, line_ready}
use Rattle.triangle_real.proofs.rows.own_last.Goals as goal

pub add_run-sums-requires : goal.add_run-sums-requires
add_run-sums-requires g c = let r = c.requires.ready in (g.met.R.Number.fit 1 (omega arith), (line_ready _ _ _ _ r, omega (arith, r.unknown, c.requires.before)))

pub returns : goal.returns
returns g c =
    let p = c.args in
    own-last-is (kind g.R.Number.numbers) p.sys p.a.now p.b.now p.q 0 p.from _ _ _ _ _ (only_lane (kind g.R.Number.numbers) _ _ _ c.add_run-sums.ensures) c.own_term-own.ensures c.add.ensures
