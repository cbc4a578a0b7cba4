-- The bytes before j are stored, and `rest` is n without them.
use Rattle.std.proofs.Common.{rules, refl}
use Rattle.encoding.proofs.LittleLaws.{rest_all, rest-low, rest-next}
use Rattle.encoding.proofs.StoredLaws.{stored-none, stored_next}
use Rattle.encoding.proofs.little.put.Goals as goal

pub loop-j-init : goal.loop-j-init
loop-j-init c = (refl, stored-none _ _ _, rest_all _)

pub loop-j-preserved : goal.loop-j-preserved
loop-j-preserved c =
    let i = c.loop-j.invariant in
    (search rules, stored_next _ _ _ _ _ _ i.1 (rest-low _ _ _ i.2), rest-next _ _ _ i.2)
