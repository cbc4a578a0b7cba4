-- The header's bytes, then the sum.
use Rattle.std.proofs.Common.{arith}
use Rattle.encoding.proofs.StoredLaws.{stored-all}
use Rattle.card.proofs.Fills.{header-block-is}
use Rattle.card.proofs.fill.header_block.Goals as goal

pub returns : goal.returns
returns c = header-block-is _ _ _ _ c.requires (stored-all 0 510 c.loop-j.j _ _ _ c.loop-j.invariant.1 (omega arith) (omega arith)) c.seal.ensures
