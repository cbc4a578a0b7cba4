-- A refused call leaves its slab; a passed one does the plan's work (Kernels: gemv-refused, gemv-done).
use Rattle.std.proofs.Common.{◌∙◌}
use Rattle.number.specs.Kind.{complex, complex_numbers}
use Rattle.number.specs.Scaling.{complex_multipliers}
use Rattle.view.specs.Checks.{gemv_check}
use Rattle.product_plan.proofs.Kernels.{gemv-plain, gemv-vectors, gemv-planned, gemv-runs, gemv-refused, gemv-done}
use Rattle.product_plan.proofs.Scales.{by-beta, by-alpha}
use Rattle.product_complex.proofs.gemv.gemv.Goals as goal

pub gemv_plan-plan-requires : goal.gemv_plan-plan-requires
gemv_plan-plan-requires c =
    let p = c.args in
    gemv-vectors _ _ _ _ _ _ _ _ _ (c.check_gemv-answer.ensures ∙ (λ t. gemv_check p.trans p.va (c.count-la.ensures.counted t) p.vx (c.count-lx.ensures.counted t) p.vy (c.count-ly.ensures.counted t))) c.passed.ensures c.if-passed.true _ c.op-left.ensures

pub run_column-requires : goal.run_column-requires
run_column-requires c =
    let p = c.args in
    let q = gemv-planned p.trans p.va p.vx p.vy _ _ _ c.op-left.ensures c.conjugates.ensures c.gemv_plan-plan.ensures in
    let h = gemv-runs p.trans p.va p.vx p.vy _ _ _ _ _ (c.check_gemv-answer.ensures ∙ (λ t. gemv_check p.trans p.va (c.count-la.ensures.counted t) p.vx (c.count-lx.ensures.counted t) p.vy (c.count-ly.ensures.counted t))) c.passed.ensures c.if-passed.true c.gemv_plan-plan.result q in
    (h.0, h.1, gemv-plain p.trans p.va p.vx p.vy c.gemv_plan-plan.result q)

pub returns-then-passed : goal.returns-then-passed
returns-then-passed c =
    let p = c.args in
    let n = complex_numbers in
    let m = complex_multipliers in
    gemv-done complex _ _ _ _ _ _ _ _ (c.check_gemv-answer.ensures ∙ (λ t. gemv_check p.trans p.va (c.count-la.ensures.counted t) p.vx (c.count-lx.ensures.counted t) p.vy (c.count-ly.ensures.counted t))) c.passed.ensures c.if-passed.true _ _ _ _
    (gemv-planned p.trans p.va p.vx p.vy _ _ _ c.op-left.ensures c.conjugates.ensures c.gemv_plan-plan.ensures)
    (by-beta n m _ _ c.judged.ensures) (by-alpha n m _ _ c.multiplier.ensures)
    c.run_column.ensures

pub returns-else-passed : goal.returns-else-passed
returns-else-passed c =
    let p = c.args in
    gemv-refused complex _ _ _ _ _ _ _ _ (c.check_gemv-answer.ensures ∙ (λ t. gemv_check p.trans p.va (c.count-la.ensures.counted t) p.vx (c.count-lx.ensures.counted t) p.vy (c.count-ly.ensures.counted t))) c.passed.ensures c.if-passed.false
