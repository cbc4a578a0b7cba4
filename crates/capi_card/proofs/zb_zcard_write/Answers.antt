-- The writer's answer and buffer, and the card's length where it is written.
use Rattle.capi_card.proofs.HandedLaws.{writes_is}
use Rattle.capi_card.proofs.zb_zcard_write.Goals as goal

pub returns : goal.returns
returns c = writes_is _ _ _ _ _ _ _ _ c.write.ensures.0 c.write.ensures.1 c.handed.ensures.0 c.handed.ensures.1
