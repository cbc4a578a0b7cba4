-- Number i in its eight bytes.
use Rattle.std.proofs.Common.{rules}
use Rattle.card.proofs.BlockLaws.{numbers-next}
use Rattle.card.proofs.fill.numbers.Goals as goal

pub loop-i-preserved : goal.loop-i-preserved
loop-i-preserved c = (search rules, numbers-next _ _ _ _ _ _ c.loop-i.invariant.1 c.word.ensures c.put.ensures)
