-- A byte that is not zero is found.
use Rattle.card.proofs.BlockLaws.{nonzero-at}
use Rattle.card.proofs.block.nonzero.Goals as goal

pub returns-then-byte-ne0 : goal.returns-then-byte-ne0
returns-then-byte-ne0 c = nonzero-at _ _ _ c.loop-j.j _ c.loop-j-test.true c.byte.ensures c.if-byte-ne0.true
