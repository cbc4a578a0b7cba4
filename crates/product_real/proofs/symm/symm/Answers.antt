-- A refused call leaves its slab; a passed one does the work of its side, with one triangle for both (Kernels: symm-refused, symm-done; Upper: upper-ready, upper-done).
use Rattle.std.proofs.Common.{false, ◌∙◌}
use Rattle.number.specs.Kind.{kind}
use Rattle.number.specs.Scaling.{scale_by}
use Rattle.view.specs.Checks.{symm_check}
use Rattle.product_plan.proofs.Kernels.{symm-runs, symm-refused, symm-done}
use Rattle.product_plan.proofs.Scales.{by-beta, by-alpha}
use Rattle.product_plan.proofs.Upper.{upper-ready, upper-done}
use Rattle.product_real.proofs.symm.symm.Goals as goal

pub run-requires : goal.run-requires
run-requires g c =
    let p = c.args in
    upper-ready p.side false p.uplo p.va p.vb p.vc _ _ _ _ c.upper_view.ensures
    (symm-runs p.side p.uplo p.va p.vb p.vc _ _ _ _ _ (c.check_symm-answer.ensures ∙ (λ t. symm_check p.side p.va (c.count-la.ensures.counted t) p.vb (c.count-lb.ensures.counted t) p.vc (c.count-lc.ensures.counted t))) c.passed.ensures c.if-passed.true)

pub returns-then-passed : goal.returns-then-passed
returns-then-passed g c =
    let p = c.args in
    let n = g.R.Number.numbers in
    let m = g.R.Number.multipliers in
    symm-done (kind n) _ _ _ _ _ _ _ _ _ (c.check_symm-answer.ensures ∙ (λ t. symm_check p.side p.va (c.count-la.ensures.counted t) p.vb (c.count-lb.ensures.counted t) p.vc (c.count-lc.ensures.counted t))) c.passed.ensures c.if-passed.true _ _ _
    (by-beta n m _ _ c.judged.ensures) (by-alpha n m _ _ c.multiplier.ensures)
    (upper-done (kind n) g.met.R.Real.self_conjugate false p.uplo p.va p.vb p.vc (scale_by n m c.judged.result) (m.times c.multiplier.result) p.a.now p.b.now p.c.now p.side _ _ c.upper_view.ensures c.run.ensures)

pub returns-else-passed : goal.returns-else-passed
returns-else-passed g c =
    let p = c.args in
    symm-refused (kind g.R.Number.numbers) _ _ _ _ _ _ _ _ _ (c.check_symm-answer.ensures ∙ (λ t. symm_check p.side p.va (c.count-la.ensures.counted t) p.vb (c.count-lb.ensures.counted t) p.vc (c.count-lc.ensures.counted t))) c.passed.ensures c.if-passed.false
