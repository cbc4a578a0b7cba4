-- A refused call leaves its slab; a passed one does the plan's work (Kernels: syrk-refused, syrk-done).
use Rattle.std.proofs.Common.{◌∙◌}
use Rattle.number.specs.Kind.{kind}
use Rattle.view.specs.Checks.{syrk_check}
use Rattle.product_plan.proofs.Kernels.{syrk-runs, syrk-refused, syrk-done}
use Rattle.product_plan.proofs.Scales.{by-beta, by-alpha}
use Rattle.product_real.proofs.syrk.syrk.Goals as goal

pub run-requires : goal.run-requires
run-requires g c =
    let p = c.args in
    syrk-runs p.trans p.va p.vc _ _ _ _ (c.check_syrk-answer.ensures ∙ (λ t. syrk_check p.trans p.va (c.count-la.ensures.counted t) p.vc (c.count-lc.ensures.counted t))) c.passed.ensures c.if-passed.true _ c.syrk_plan.ensures

pub returns-then-passed : goal.returns-then-passed
returns-then-passed g c =
    let p = c.args in
    let n = g.R.Number.numbers in
    let m = g.R.Number.multipliers in
    syrk-done (kind n) _ _ _ _ _ _ _ _ (c.check_syrk-answer.ensures ∙ (λ t. syrk_check p.trans p.va (c.count-la.ensures.counted t) p.vc (c.count-lc.ensures.counted t))) c.passed.ensures c.if-passed.true _ _ _ _ c.syrk_plan.ensures
    (by-beta n m _ _ c.judged.ensures) (by-alpha n m _ _ c.multiplier.ensures)
    c.run.ensures

pub returns-else-passed : goal.returns-else-passed
returns-else-passed g c =
    let p = c.args in
    syrk-refused (kind g.R.Number.numbers) _ _ _ _ _ _ _ _ (c.check_syrk-answer.ensures ∙ (λ t. syrk_check p.trans p.va (c.count-la.ensures.counted t) p.vc (c.count-lc.ensures.counted t))) c.passed.ensures c.if-passed.false
