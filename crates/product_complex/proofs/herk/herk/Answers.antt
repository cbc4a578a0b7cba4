-- A refused call leaves its slab; a passed one does the plan's work (Kernels: herk-refused, herk-done).
use Rattle.std.proofs.Common.{◌∙◌}
use Rattle.number.specs.Kind.{complex, complex_numbers}
use Rattle.number.specs.Scaling.{complex_multipliers}
use Rattle.view.specs.Checks.{herk_check}
use Rattle.product_plan.proofs.Kernels.{herk-runs, herk-refused, herk-done}
use Rattle.product_plan.proofs.Scales.{by-real-beta, by-real-alpha}
use Rattle.product_complex.proofs.herk.herk.Goals as goal

pub run_triangle-requires : goal.run_triangle-requires
run_triangle-requires c =
    let p = c.args in
    herk-runs p.trans p.va p.vc _ _ _ _ (c.check_herk-answer.ensures ∙ (λ t. herk_check p.trans p.va (c.count-la.ensures.counted t) p.vc (c.count-lc.ensures.counted t))) c.passed.ensures c.if-passed.true _ c.herk_plan.ensures

pub returns-then-passed : goal.returns-then-passed
returns-then-passed c =
    let p = c.args in
    let n = complex_numbers in
    let m = complex_multipliers in
    herk-done complex _ _ _ _ _ _ _ _ (c.check_herk-answer.ensures ∙ (λ t. herk_check p.trans p.va (c.count-la.ensures.counted t) p.vc (c.count-lc.ensures.counted t))) c.passed.ensures c.if-passed.true _ _ _ _ c.herk_plan.ensures
    (by-real-beta n m _ _ c.judged_real.ensures) (by-real-alpha n m _ _ c.real_multiplier.ensures)
    c.run_triangle.ensures

pub returns-else-passed : goal.returns-else-passed
returns-else-passed c =
    let p = c.args in
    herk-refused complex _ _ _ _ _ _ _ _ (c.check_herk-answer.ensures ∙ (λ t. herk_check p.trans p.va (c.count-la.ensures.counted t) p.vc (c.count-lc.ensures.counted t))) c.passed.ensures c.if-passed.false
