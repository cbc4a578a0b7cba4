-- A refused call leaves its slab; a passed one does the plan's work (Kernels: herk-refused, herk-done).
use Rattle.std.proofs.Common.{◌∙◌}
use Rattle.number.specs.Kind.{kind}
use Rattle.view.specs.Checks.{herk_check}
use Rattle.product_plan.proofs.Kernels.{herk-runs, herk-refused, herk-done}
use Rattle.product_plan.proofs.Scales.{by-real-beta, by-real-alpha}
use Rattle.product_real.proofs.herk.herk.Goals as goal

pub run-requires : goal.run-requires
run-requires g c =
    let p = c.args in
    herk-runs p.trans p.va p.vc _ _ _ _ (c.check_herk-answer.ensures ∙ (λ t. herk_check p.trans p.va (c.count-la.ensures.counted t) p.vc (c.count-lc.ensures.counted t))) c.passed.ensures c.if-passed.true _ c.herk_plan.ensures

pub returns-then-passed : goal.returns-then-passed
returns-then-passed g c =
    let p = c.args in
    let n = g.R.Number.numbers in
    let m = g.R.Number.multipliers in
    herk-done (kind n) _ _ _ _ _ _ _ _ (c.check_herk-answer.ensures ∙ (λ t. herk_check p.trans p.va (c.count-la.ensures.counted t) p.vc (c.count-lc.ensures.counted t))) c.passed.ensures c.if-passed.true _ _ _ _ c.herk_plan.ensures
    (by-real-beta n m _ _ c.judged_real.ensures) (by-real-alpha n m _ _ c.real_multiplier.ensures)
    c.run.ensures

pub returns-else-passed : goal.returns-else-passed
returns-else-passed g c =
    let p = c.args in
    herk-refused (kind g.R.Number.numbers) _ _ _ _ _ _ _ _ (c.check_herk-answer.ensures ∙ (λ t. herk_check p.trans p.va (c.count-la.ensures.counted t) p.vc (c.count-lc.ensures.counted t))) c.passed.ensures c.if-passed.false
