-- The factors of all terms are inside (Ready: spans).
use Rattle.std.proofs.Common.{arith}
use Rattle.product_plan.proofs.Ready.{spans}
use Rattle.product_plan.proofs.operands.Operands.entry.Goals as goal

pub add_terms-sum-requires : goal.add_terms-sum-requires
add_terms-sum-requires g c =
    let r = c.requires in
    spans _ _ _ _ _ _ r.0.reads _ _ _ _ r.1 r.2 (omega arith) (omega arith)
