-- The loop ends where the triangle does (Rows: triangle_last).
use Rattle.std.proofs.Common.{arith}
use Rattle.product_plan.proofs.Rows.{triangle_last}
use Rattle.product_plan.proofs.operands.Operands.triangle_row.Goals as goal

pub returns : goal.returns
returns g c =
    let first = c.first_col-j.ensures in
    let end = c.end_col-j-end.ensures in
    triangle_last _ _ _ _ _ _ _ _ c.requires.2 (λ h. omega (arith, c.loop-j.auto.j-end)) (omega arith) c.loop-j.invariant
