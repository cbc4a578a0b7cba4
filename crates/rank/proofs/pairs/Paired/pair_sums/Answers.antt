-- Zeros are the sums of no pairs; each turn adds a pair to each sum (Sums: pairs_start, pairs_next).
use Rattle.number.specs.Kind.{kind}
use Rattle.rank_plan.proofs.Sums.{pairs_start, pairs_next}
use Rattle.rank.proofs.pairs.Paired.pair_sums.Goals as goal

pub loop-p-init : goal.loop-p-init
loop-p-init g c = pairs_start (kind g.N.Number.numbers) _ _ _ c.zeros-sums.ensures

pub loop-p-preserved : goal.loop-p-preserved
loop-p-preserved g c = pairs_next (kind g.N.Number.numbers) _ _ _ _ _ c.loop-p.invariant c.add_pairs-sums.ensures
