-- A refused call leaves its slab; a passed one does the plan's work (Kernels: syrk-refused, syrk-done).
use Rattle.std.proofs.Common.{◌∙◌}
use Rattle.number.specs.Kind.{complex, complex_numbers}
use Rattle.number.specs.Scaling.{complex_multipliers}
use Rattle.view.specs.Checks.{syrk_check}
use Rattle.product_plan.proofs.Kernels.{syrk-runs, syrk-refused, syrk-done}
use Rattle.product_plan.proofs.Scales.{by-beta, by-alpha}
use Rattle.product_complex.proofs.syrk.syrk.Goals as goal

pub run_triangle-requires : goal.run_triangle-requires
run_triangle-requires c =
    let p = c.args in
    syrk-runs p.trans p.va p.vc _ _ _ _ (c.check_syrk-answer.ensures ∙ (λ t. syrk_check p.trans p.va (c.count-la.ensures.counted t) p.vc (c.count-lc.ensures.counted t))) c.passed.ensures c.if-passed.true _ c.syrk_plan.ensures

pub returns-then-passed : goal.returns-then-passed
returns-then-passed c =
    let p = c.args in
    let n = complex_numbers in
    let m = complex_multipliers in
    syrk-done complex _ _ _ _ _ _ _ _ (c.check_syrk-answer.ensures ∙ (λ t. syrk_check p.trans p.va (c.count-la.ensures.counted t) p.vc (c.count-lc.ensures.counted t))) c.passed.ensures c.if-passed.true _ _ _ _ c.syrk_plan.ensures
    (by-beta n m _ _ c.judged.ensures) (by-alpha n m _ _ c.multiplier.ensures)
    c.run_triangle.ensures

pub returns-else-passed : goal.returns-else-passed
returns-else-passed c =
    let p = c.args in
    syrk-refused complex _ _ _ _ _ _ _ _ (c.check_syrk-answer.ensures ∙ (λ t. syrk_check p.trans p.va (c.count-la.ensures.counted t) p.vc (c.count-lc.ensures.counted t))) c.passed.ensures c.if-passed.false
