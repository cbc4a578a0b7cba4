-- The factors of the terms before the turn and after it are inside (Ready: spans).
use Rattle.std.proofs.Common.{arith}
use Rattle.product_plan.proofs.Ready.{spans}
use Rattle.product_plan.proofs.operands.Operands.turned_sum.Goals as goal

pub add_run-head-requires : goal.add_run-head-requires
add_run-head-requires g c =
    let r = c.requires in
    spans _ _ _ _ _ _ r.0.head _ _ _ _ r.1 r.2 (omega arith) (omega (arith, r.3, r.0.turns _ _ r.1 r.2))

pub add_run-requires : goal.add_run-requires
add_run-requires g c =
    let r = c.requires in
    spans _ _ _ _ _ _ r.0.tail _ _ _ _ r.1 r.2 (omega (arith, r.3, r.0.turns _ _ r.1 r.2)) (omega arith)
