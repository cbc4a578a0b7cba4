-- A turn more of each run (Runs: more_first; Rows: rows_on, rows_shown).
use Rattle.std.proofs.Common.{◌+◌, rules, arith}
use Rattle.number.specs.Kind.{kind}
use Rattle.triangle_plan.specs.Multiply.{line_term}
use Rattle.triangle_plan.proofs.Runs.{more_first}
use Rattle.triangle_plan.proofs.Rows.{rows_on, rows_shown}
use Rattle.triangle_real.proofs.rows.add_rows.Goals as goal

pub loop-p-init : goal.loop-p-init
loop-p-init g c =
    let p = c.args in
    let K = kind g.R.Number.numbers in
    more_first K 8 (λ t. line_term K p.sys p.a.now p.b.now (p.q + t) 0) p.from p.xs (search rules)

pub plus_lanes-sums-requires : goal.plus_lanes-sums-requires
plus_lanes-sums-requires g c =
    (g.met.R.Number.fit 8 (omega arith), λ t h. rw c.transposed-turned.ensures (rows_shown _ _ _ _ c.requires.ready _ (omega (arith, c.requires.room)) t h))

pub loop-p-preserved : goal.loop-p-preserved
loop-p-preserved g c =
    let p = c.args in
    rows_on (kind g.R.Number.numbers) g.met.R.Real.self_conjugate g.met.R.Number.laws.commutes p.sys p.a.now p.b.now p.q p.from p.xs c.loop-p.p _ _ _ c.loop-p.auto.p c.elem.ensures c.loop-p.invariant
    (rw c.transposed-turned.ensures at c.plus_lanes-sums.ensures)
