-- A refused call leaves its slab; a passed one does the plan's work (Kernels: gemm-refused, gemm-done).
use Rattle.std.proofs.Common.{◌∙◌}
use Rattle.number.specs.Kind.{complex, complex_numbers}
use Rattle.number.specs.Scaling.{complex_multipliers}
use Rattle.view.specs.Checks.{gemm_check}
use Rattle.product_plan.proofs.Kernels.{gemm-planned, gemm-runs, gemm-refused, gemm-done}
use Rattle.product_plan.proofs.Scales.{by-beta, by-alpha}
use Rattle.product_complex.proofs.gemm.gemm.Goals as goal

pub run-requires : goal.run-requires
run-requires c =
    let p = c.args in
    gemm-runs _ _ _ _ _ _ _ _ _ _ (c.check_gemm-answer.ensures ∙ (λ t. gemm_check p.ta p.tb p.va (c.count-la.ensures.counted t) p.vb (c.count-lb.ensures.counted t) p.vc (c.count-lc.ensures.counted t))) c.passed.ensures c.if-passed.true _
    (gemm-planned p.ta p.tb p.va p.vb p.vc _ _ _ _ _ c.op-left.ensures c.conjugates.ensures c.op-right.ensures c.conjugates-then-passed.ensures c.gemm_plan-plan.ensures)

pub returns-then-passed : goal.returns-then-passed
returns-then-passed c =
    let p = c.args in
    let n = complex_numbers in
    let m = complex_multipliers in
    gemm-done complex _ _ _ _ _ _ _ _ _ (c.check_gemm-answer.ensures ∙ (λ t. gemm_check p.ta p.tb p.va (c.count-la.ensures.counted t) p.vb (c.count-lb.ensures.counted t) p.vc (c.count-lc.ensures.counted t))) c.passed.ensures c.if-passed.true _ _ _ _
    (gemm-planned p.ta p.tb p.va p.vb p.vc _ _ _ _ _ c.op-left.ensures c.conjugates.ensures c.op-right.ensures c.conjugates-then-passed.ensures c.gemm_plan-plan.ensures)
    (by-beta n m _ _ c.judged.ensures) (by-alpha n m _ _ c.multiplier.ensures)
    c.run.ensures

pub returns-else-passed : goal.returns-else-passed
returns-else-passed c =
    let p = c.args in
    gemm-refused complex _ _ _ _ _ _ _ _ _ (c.check_gemm-answer.ensures ∙ (λ t. gemm_check p.ta p.tb p.va (c.count-la.ensures.counted t) p.vb (c.count-lb.ensures.counted t) p.vc (c.count-lc.ensures.counted t))) c.passed.ensures c.if-passed.false
