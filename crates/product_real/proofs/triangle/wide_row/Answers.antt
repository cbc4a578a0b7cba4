-- The blocks end where the triangle does (Rows: triangle_last).
use Rattle.std.proofs.Common.{arith, ◌∙◌}
use Rattle.number.specs.Kind.{kind}
use Rattle.view.specs.Triangle.{end_col}
use Rattle.slabs.specs.Update.{span}
use Rattle.product_plan.specs.Work.{plan_work}
use Rattle.product_plan.proofs.Rows.{triangle_last}
use Rattle.product_real.proofs.triangle.wide_row.Goals as goal

pub returns : goal.returns
returns g c =
    let n = g.R.Number.numbers in
    let p = c.args in
    let u = plan_work n g.R.Number.multipliers p.plan p.ops.now in
    triangle_last (kind n) p.plan.target p.uplo u p.i (end_col p.uplo p.i p.plan.target.cols) _ _ c.requires.2 (λ h. omega arith) (omega arith)
    (c.blocks-2.ensures ∙ (λ t. span (kind n) p.plan.target u p.i (c.first_col.ensures t) (c.end_col-end.ensures t) p.c.now))
