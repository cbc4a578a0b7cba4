-- The factors of the terms before the turn and after it are inside (Ready: spans).
use Rattle.std.proofs.Common.{arith}
use Rattle.product_plan.proofs.Ready.{spans}
use Rattle.product_complex.proofs.hemv.hemv_entry.Goals as goal

pub at-k-requires : goal.at-k-requires
at-k-requires c = let r = c.requires in r.0.reads.turns _ _ r.2 r.3

pub add_left-head-requires : goal.add_left-head-requires
add_left-head-requires c =
    let r = c.requires in
    (spans _ _ _ _ _ _ r.0.reads.head _ _ _ _ r.2 r.3 (omega arith) (omega (arith, c.at-k.ensures, r.0.reads.turns _ _ r.2 r.3)), r.1.head_plain)

pub add_left-sum-requires : goal.add_left-sum-requires
add_left-sum-requires c =
    let r = c.requires in
    (spans _ _ _ _ _ _ r.0.reads.tail _ _ _ _ r.2 r.3 (omega (arith, c.at-k.ensures, r.0.reads.turns _ _ r.2 r.3)) (omega arith), r.1.tail-plain)
