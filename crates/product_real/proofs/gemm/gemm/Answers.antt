-- A refused call leaves its slab; a passed one does the plan's work (Kernels: gemm-refused, gemm-done).
use Rattle.std.proofs.Common.{◌∙◌}
use Rattle.number.specs.Kind.{kind}
use Rattle.view.specs.Checks.{gemm_check}
use Rattle.product_plan.proofs.Kernels.{gemm-planned, gemm-runs, gemm-refused, gemm-done}
use Rattle.product_plan.proofs.Scales.{by-beta, by-alpha}
use Rattle.product_real.proofs.gemm.gemm.Goals as goal

pub run-requires : goal.run-requires
run-requires g c =
    let p = c.args in
    gemm-runs _ _ _ _ _ _ _ _ _ _ (c.check_gemm-answer.ensures ∙ (λ t. gemm_check p.ta p.tb p.va (c.count-la.ensures.counted t) p.vb (c.count-lb.ensures.counted t) p.vc (c.count-lc.ensures.counted t))) c.passed.ensures c.if-passed.true _
    (gemm-planned p.ta p.tb p.va p.vb p.vc _ _ _ _ _ c.op-left.ensures c.conjugates.ensures c.op-right.ensures c.conjugates-then-passed.ensures c.gemm_plan-plan.ensures)

pub returns-then-passed : goal.returns-then-passed
returns-then-passed g c =
    let p = c.args in
    let n = g.R.Number.numbers in
    let m = g.R.Number.multipliers in
    gemm-done (kind n) _ _ _ _ _ _ _ _ _ (c.check_gemm-answer.ensures ∙ (λ t. gemm_check p.ta p.tb p.va (c.count-la.ensures.counted t) p.vb (c.count-lb.ensures.counted t) p.vc (c.count-lc.ensures.counted t))) c.passed.ensures c.if-passed.true _ _ _ _
    (gemm-planned p.ta p.tb p.va p.vb p.vc _ _ _ _ _ c.op-left.ensures c.conjugates.ensures c.op-right.ensures c.conjugates-then-passed.ensures c.gemm_plan-plan.ensures)
    (by-beta n m _ _ c.judged.ensures) (by-alpha n m _ _ c.multiplier.ensures)
    c.run.ensures

pub returns-else-passed : goal.returns-else-passed
returns-else-passed g c =
    let p = c.args in
    gemm-refused (kind g.R.Number.numbers) _ _ _ _ _ _ _ _ _ (c.check_gemm-answer.ensures ∙ (λ t. gemm_check p.ta p.tb p.va (c.count-la.ensures.counted t) p.vb (c.count-lb.ensures.counted t) p.vc (c.count-lc.ensures.counted t))) c.passed.ensures c.if-passed.false
