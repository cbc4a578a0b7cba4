-- A refused call leaves its slab; a passed one does the plan's work (Kernels: gemv-refused, gemv-done).
use Rattle.std.proofs.Common.{◌∙◌}
use Rattle.number.specs.Kind.{kind}
use Rattle.view.specs.Checks.{gemv_check}
use Rattle.product_plan.proofs.Kernels.{gemv-vectors, gemv-planned, gemv-runs, gemv-refused, gemv-done}
use Rattle.product_plan.proofs.Scales.{by-beta, by-alpha}
use Rattle.product_real.proofs.gemv.gemv.Goals as goal

pub gemv_plan-plan-requires : goal.gemv_plan-plan-requires
gemv_plan-plan-requires g c =
    let p = c.args in
    gemv-vectors _ _ _ _ _ _ _ _ _ (c.check_gemv-answer.ensures ∙ (λ t. gemv_check p.trans p.va (c.count-la.ensures.counted t) p.vx (c.count-lx.ensures.counted t) p.vy (c.count-ly.ensures.counted t))) c.passed.ensures c.if-passed.true _ c.op-left.ensures

pub run_column-requires : goal.run_column-requires
run_column-requires g c =
    let p = c.args in
    gemv-runs _ _ _ _ _ _ _ _ _ (c.check_gemv-answer.ensures ∙ (λ t. gemv_check p.trans p.va (c.count-la.ensures.counted t) p.vx (c.count-lx.ensures.counted t) p.vy (c.count-ly.ensures.counted t))) c.passed.ensures c.if-passed.true _
    (gemv-planned p.trans p.va p.vx p.vy _ _ _ c.op-left.ensures c.conjugates.ensures c.gemv_plan-plan.ensures)

pub returns-then-passed : goal.returns-then-passed
returns-then-passed g c =
    let p = c.args in
    let n = g.R.Number.numbers in
    let m = g.R.Number.multipliers in
    gemv-done (kind n) _ _ _ _ _ _ _ _ (c.check_gemv-answer.ensures ∙ (λ t. gemv_check p.trans p.va (c.count-la.ensures.counted t) p.vx (c.count-lx.ensures.counted t) p.vy (c.count-ly.ensures.counted t))) c.passed.ensures c.if-passed.true _ _ _ _
    (gemv-planned p.trans p.va p.vx p.vy _ _ _ c.op-left.ensures c.conjugates.ensures c.gemv_plan-plan.ensures)
    (by-beta n m _ _ c.judged.ensures) (by-alpha n m _ _ c.multiplier.ensures)
    c.run_column.ensures

pub returns-else-passed : goal.returns-else-passed
returns-else-passed g c =
    let p = c.args in
    gemv-refused (kind g.R.Number.numbers) _ _ _ _ _ _ _ _ (c.check_gemv-answer.ensures ∙ (λ t. gemv_check p.trans p.va (c.count-la.ensures.counted t) p.vx (c.count-lx.ensures.counted t) p.vy (c.count-ly.ensures.counted t))) c.passed.ensures c.if-passed.false
