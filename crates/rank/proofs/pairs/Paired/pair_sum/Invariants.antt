-- The sum is that of the pairs before p.
use Rattle.std.proofs.Common.{◌≡◌}
use Rattle.number.specs.Kind.{kind}
use Rattle.rank_plan.specs.Change.{pairs_at}
use Rattle.rank.proofs.pairs.Paired.pair_sum.Given as goal

abbrev pub invariant-loop-p : goal.invariant-loop-p
invariant-loop-p g l =
    let K = kind g.N.Number.numbers in
    l.sum ≡ pairs_at K l.self.plan l.self.a.now l.self.b.now (g.W.Weigh.weights l.self.weigh) l.i l.j l.p
