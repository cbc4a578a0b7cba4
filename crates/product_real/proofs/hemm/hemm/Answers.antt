-- A refused call leaves its slab; a passed one does the work of its side, with one triangle for both (Kernels: hemm-refused, hemm-done; Upper: upper-ready, upper-done).
use Rattle.std.proofs.Common.{true, ◌∙◌}
use Rattle.number.specs.Kind.{kind}
use Rattle.number.specs.Scaling.{scale_by}
use Rattle.view.specs.Checks.{hemm_check}
use Rattle.product_plan.proofs.Kernels.{hemm-runs, hemm-refused, hemm-done}
use Rattle.product_plan.proofs.Scales.{by-beta, by-alpha}
use Rattle.product_plan.proofs.Upper.{upper-ready, upper-done}
use Rattle.product_real.proofs.hemm.hemm.Goals as goal

pub run-requires : goal.run-requires
run-requires g c =
    let p = c.args in
    upper-ready p.side true p.uplo p.va p.vb p.vc _ _ _ _ c.upper_view.ensures
    (hemm-runs p.side p.uplo p.va p.vb p.vc _ _ _ _ _ (c.check_hemm-answer.ensures ∙ (λ t. hemm_check p.side p.va (c.count-la.ensures.counted t) p.vb (c.count-lb.ensures.counted t) p.vc (c.count-lc.ensures.counted t))) c.passed.ensures c.if-passed.true)

pub returns-then-passed : goal.returns-then-passed
returns-then-passed g c =
    let p = c.args in
    let n = g.R.Number.numbers in
    let m = g.R.Number.multipliers in
    hemm-done (kind n) _ _ _ _ _ _ _ _ _ (c.check_hemm-answer.ensures ∙ (λ t. hemm_check p.side p.va (c.count-la.ensures.counted t) p.vb (c.count-lb.ensures.counted t) p.vc (c.count-lc.ensures.counted t))) c.passed.ensures c.if-passed.true _ _ _
    (by-beta n m _ _ c.judged.ensures) (by-alpha n m _ _ c.multiplier.ensures)
    (upper-done (kind n) g.met.R.Real.self_conjugate true p.uplo p.va p.vb p.vc (scale_by n m c.judged.result) (m.times c.multiplier.result) p.a.now p.b.now p.c.now p.side _ _ c.upper_view.ensures c.run.ensures)

pub returns-else-passed : goal.returns-else-passed
returns-else-passed g c =
    let p = c.args in
    hemm-refused (kind g.R.Number.numbers) _ _ _ _ _ _ _ _ _ (c.check_hemm-answer.ensures ∙ (λ t. hemm_check p.side p.va (c.count-la.ensures.counted t) p.vb (c.count-lb.ensures.counted t) p.vc (c.count-lc.ensures.counted t))) c.passed.ensures c.if-passed.false
