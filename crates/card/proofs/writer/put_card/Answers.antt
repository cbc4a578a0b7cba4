-- Block k in its part of the buffer.
use Rattle.std.proofs.Common.{arith, refl}
use Rattle.card.proofs.Fills.{card-length, card-next}
use Rattle.card.proofs.writer.put_card.Goals as goal

pub loop-k-preserved : goal.loop-k-preserved
loop-k-preserved c =
    let next = card-next _ _ _ _ _ _ _ c.loop-k.invariant.1 (omega (arith, c.blocks-k-end.ensures, c.requires.1)) c.block.ensures refl in
    (card-length _ _ _ _ _ next, next)
