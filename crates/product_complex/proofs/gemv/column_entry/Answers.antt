-- The factors of all terms are inside (Ready: spans).
use Rattle.std.proofs.Common.{arith}
use Rattle.product_plan.proofs.Ready.{spans}
use Rattle.product_complex.proofs.gemv.column_entry.Goals as goal

pub add_left-sum-requires : goal.add_left-sum-requires
add_left-sum-requires c =
    let r = c.requires in
    (spans _ _ _ _ _ _ r.0.reads _ _ _ _ r.1 r.2 (omega arith) (omega arith), r.3)
