-- The scan's answer is the file's; a card that is read has its numbers at the slab's front.
use Rattle.std.proofs.Common.{refl}
use Rattle.std.proofs.lemmas.Result.{err_from_is_err_and}
use Rattle.card.proofs.Calls.{read_refused, read-accepted, read-blocks, read-room, scan-is}
use Rattle.card.proofs.reader.read.Goals as goal

pub returns-in_err-judge : goal.returns-in_err-judge
returns-in_err-judge c =
    let p = err_from_is_err_and c.from_residual.result c.from_residual.ensures.1 in
    rw (p.1, p.2) (read_refused _ _ _ _ (scan-is _ _ _ _ _ c.of-scan.ensures c.in_err-judge.ensures))

pub numbers-requires : goal.numbers-requires
numbers-requires c =
    let d = scan-is _ _ _ _ _ c.of-scan.ensures c.in_ok-judge.ensures in
    (read-room _ _ _ _ c.of-scan.ensures d _ c.count.ensures.0, read-blocks _ _ _ _ c.of-scan.ensures d _ c.count.ensures.0)

pub returns : goal.returns
returns c =
    let d = scan-is _ _ _ _ _ c.of-scan.ensures c.in_ok-judge.ensures in
    read-accepted _ _ _ _ c.of-scan.ensures d _ c.count.ensures.0 _ _ refl c.numbers.ensures
