-- The reader's answer and slab, and its header where the card is read.
use Rattle.capi_card.proofs.HandedLaws.{reads_done, reads_refused}
use Rattle.capi_card.proofs.zb_card_read.Goals as goal

pub returns-in-Ok : goal.returns-in-Ok
returns-in-Ok c = rw (c.from.ensures, c.from-in-Ok.ensures) (reads_done _ _ _ _ _ _ _ c.in-Ok.ensures.0 c.in-Ok.ensures.1)

pub returns-in-Err : goal.returns-in-Err
returns-in-Err c = rw c.from-in-Err.ensures (reads_refused _ _ _ _ _ _ _ c.in-Err.ensures.0 c.in-Err.ensures.1)
