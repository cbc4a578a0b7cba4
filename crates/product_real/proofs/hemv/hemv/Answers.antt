-- A refused call leaves its slab; a passed one does the plan's work (Kernels: hemv-refused, hemv-done).
use Rattle.std.proofs.Common.{◌∙◌}
use Rattle.number.specs.Kind.{kind}
use Rattle.view.specs.Checks.{hemv_check}
use Rattle.product_plan.proofs.Kernels.{hemv-vectors, hemv-runs, hemv-refused, hemv-done}
use Rattle.product_plan.proofs.Scales.{by-beta, by-alpha}
use Rattle.product_real.proofs.hemv.hemv.Goals as goal

pub hemv_plan-requires : goal.hemv_plan-requires
hemv_plan-requires g c =
    let p = c.args in
    hemv-vectors p.uplo _ _ _ _ _ _ _ _ (c.check_hemv-answer.ensures ∙ (λ t. hemv_check p.va (c.count-la.ensures.counted t) p.vx (c.count-lx.ensures.counted t) p.vy (c.count-ly.ensures.counted t))) c.passed.ensures c.if-passed.true

pub run_left_column-requires : goal.run_left_column-requires
run_left_column-requires g c =
    let p = c.args in
    let h = hemv-runs p.uplo p.va p.vx p.vy _ _ _ _ _ (c.check_hemv-answer.ensures ∙ (λ t. hemv_check p.va (c.count-la.ensures.counted t) p.vx (c.count-lx.ensures.counted t) p.vy (c.count-ly.ensures.counted t))) c.passed.ensures c.if-passed.true _ c.hemv_plan.ensures in
    (h.0, h.2)

pub returns-then-passed : goal.returns-then-passed
returns-then-passed g c =
    let p = c.args in
    let n = g.R.Number.numbers in
    let m = g.R.Number.multipliers in
    hemv-done (kind n) _ _ _ _ _ _ _ _ (c.check_hemv-answer.ensures ∙ (λ t. hemv_check p.va (c.count-la.ensures.counted t) p.vx (c.count-lx.ensures.counted t) p.vy (c.count-ly.ensures.counted t))) c.passed.ensures c.if-passed.true _ _ _ _ c.hemv_plan.ensures
    (by-beta n m _ _ c.judged.ensures) (by-alpha n m _ _ c.multiplier.ensures)
    c.run_left_column.ensures

pub returns-else-passed : goal.returns-else-passed
returns-else-passed g c =
    let p = c.args in
    hemv-refused (kind g.R.Number.numbers) _ _ _ _ _ _ _ _ (c.check_hemv-answer.ensures ∙ (λ t. hemv_check p.va (c.count-la.ensures.counted t) p.vx (c.count-lx.ensures.counted t) p.vy (c.count-ly.ensures.counted t))) c.passed.ensures c.if-passed.false
