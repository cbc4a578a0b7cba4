-- Each column is settled with its own sum (Sums: sum_of, settled).
use Rattle.std.proofs.Common.{arith, ap}
use Rattle.number.specs.Kind.{kind}
use Rattle.number.specs.Scaling.{scale_by}
use Rattle.slabs.proofs.LoopLaws.{span-start, span-next}
use Rattle.rank_plan.specs.Change.{pairs_at}
use Rattle.rank_plan.proofs.Sums.{sum_of, settled}
use Rattle.rank.proofs.pairs.Paired.block.Goals as goal

pub loop-j-init : goal.loop-j-init
loop-j-init g c = span-start (kind g.N.Number.numbers) _ _ _ _ _

pub loop-j-preserved : goal.loop-j-preserved
loop-j-preserved g c =
    let n = g.N.Number.numbers in
    let s = c.args.self.now in
    let w = g.W.Weigh.weights s.weigh in
    span-next (kind n) _ _ _ _ _ _ _ _ (omega arith) c.loop-j.invariant
    (settled (kind n) s.plan.target c.args.i c.loop-j.j (scale_by n g.N.Number.multipliers s.beta) _ _ c.loop-j.c _
    (ap w.sum
    (sum_of (kind n) (λ j. pairs_at (kind n) s.plan s.a.now s.b.now w c.args.i j s.plan.terms) _ c.args.from c.loop-j.j c.index-sums-j.result c.pair_sums-sums.ensures
    (omega (arith, c.requires.block.begins, c.loop-j.auto.j))
    (omega (arith, c.requires.block.ends, c.loop-j-test.true))))
    c.settle.ensures)
