-- Block 0 is the header; a later one has the numbers that are left for it.
use Rattle.std.proofs.Common.{refl}
use Rattle.card.proofs.Fills.{block-first, block-later}
use Rattle.card.proofs.fill.block.Goals as goal

pub returns-then-k-eq0 : goal.returns-then-k-eq0
returns-then-k-eq0 c = block-first _ _ _ _ _ c.if-k-eq0.true c.header_block.ensures

pub returns-else-k-eq0 : goal.returns-else-k-eq0
returns-else-k-eq0 c = block-later _ _ _ _ _ _ _ c.if-k-eq0.false c.requires.1 c.count.ensures.0 c.requires.0 refl c.data_block.ensures
