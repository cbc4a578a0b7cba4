-- Each turn adds a pair (SumLaws: pair-start, pair-next).
use Rattle.std.proofs.Common.{sym, ◌∙◌}
use Rattle.number.specs.Kind.{kind}
use Rattle.blas.proofs.SumLaws.{pair-start, pair-next}
use Rattle.rank.proofs.pairs.Paired.pair_sum.Goals as goal

pub loop-p-init : goal.loop-p-init
loop-p-init g c = c.zero-sum.ensures ∙ sym (pair-start (kind g.N.Number.numbers) _ _)

pub loop-p-preserved : goal.loop-p-preserved
loop-p-preserved g c = pair-next (kind g.N.Number.numbers) _ _ _ _ _ c.loop-p.invariant c.add_pair-sum.ensures
