-- The factors of term p are inside, of the head's and of the tail's.
use Rattle.product_real.proofs.folded.folded_term.Goals as goal

pub term-requires : goal.term-requires
term-requires g c =
    let r = c.requires in
    (r.0.head.left _ _ r.1 r.3, r.0.head.right _ _ r.3 r.2)

pub term-requires-else-p-k : goal.term-requires-else-p-k
term-requires-else-p-k g c =
    let r = c.requires in
    (r.0.tail.left _ _ r.1 r.3, r.0.tail.right _ _ r.3 r.2)
