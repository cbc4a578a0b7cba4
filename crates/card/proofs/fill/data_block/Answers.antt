-- The numbers and k, then the sum.
use Rattle.card.proofs.Fills.{data-block-is}
use Rattle.card.proofs.fill.data_block.Goals as goal

pub returns : goal.returns
returns c = data-block-is _ _ _ _ _ _ c.requires.0 c.requires.1 c.numbers.ensures c.put.ensures c.seal.ensures
