-- A refused call leaves its slab; a passed one does the work of its side (Kernels: hemm-refused, hemm-done).
use Rattle.std.proofs.Common.{◌∙◌}
use Rattle.number.specs.Kind.{complex, complex_numbers}
use Rattle.number.specs.Scaling.{complex_multipliers}
use Rattle.view.specs.Checks.{hemm_check}
use Rattle.product_plan.proofs.Kernels.{hemm-runs, hemm-refused, hemm-done}
use Rattle.product_plan.proofs.Scales.{by-beta, by-alpha}
use Rattle.product_complex.proofs.hemm.hemm.Goals as goal

pub run-requires : goal.run-requires
run-requires c =
    let p = c.args in
    hemm-runs p.side p.uplo p.va p.vb p.vc _ _ _ _ _ (c.check_hemm-answer.ensures ∙ (λ t. hemm_check p.side p.va (c.count-la.ensures.counted t) p.vb (c.count-lb.ensures.counted t) p.vc (c.count-lc.ensures.counted t))) c.passed.ensures c.if-passed.true

pub returns-then-passed : goal.returns-then-passed
returns-then-passed c =
    let p = c.args in
    let n = complex_numbers in
    let m = complex_multipliers in
    hemm-done complex _ _ _ _ _ _ _ _ _ (c.check_hemm-answer.ensures ∙ (λ t. hemm_check p.side p.va (c.count-la.ensures.counted t) p.vb (c.count-lb.ensures.counted t) p.vc (c.count-lc.ensures.counted t))) c.passed.ensures c.if-passed.true _ _ _
    (by-beta n m _ _ c.judged.ensures) (by-alpha n m _ _ c.multiplier.ensures)
    c.run.ensures

pub returns-else-passed : goal.returns-else-passed
returns-else-passed c =
    let p = c.args in
    hemm-refused complex _ _ _ _ _ _ _ _ _ (c.check_hemm-answer.ensures ∙ (λ t. hemm_check p.side p.va (c.count-la.ensures.counted t) p.vb (c.count-lb.ensures.counted t) p.vc (c.count-lc.ensures.counted t))) c.passed.ensures c.if-passed.false
