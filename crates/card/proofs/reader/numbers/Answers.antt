-- Number i of the card, in place i.
use Rattle.std.proofs.Common.{rules}
use Rattle.encoding.proofs.StoredLaws.{stored-front}
use Rattle.card.proofs.BlockLaws.{number_is}
use Rattle.card.proofs.Counts.{block_fits}
use Rattle.card.proofs.ScanLaws.{part-is}
use Rattle.card.proofs.reader.numbers.Goals as goal

pub slice_bounds-pattern-end : goal.slice_bounds-pattern-end
slice_bounds-pattern-end c = block_fits _ c.loop-i.i _ c.loop-i-test.true c.requires.1

pub loop-i-preserved : goal.loop-i-preserved
loop-i-preserved c =
    (search rules, stored-front _ _ _ _ _ c.loop-i.invariant.1 (number_is _ _ _ _ _ (part-is _ _) c.pattern.ensures c.of_pattern.ensures))
