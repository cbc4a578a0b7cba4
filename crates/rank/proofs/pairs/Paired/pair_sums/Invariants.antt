-- The sums are those of the pairs before p.
use Rattle.std.proofs.Common.{◌+◌}
use Rattle.number.specs.Kind.{kind}
use Rattle.slabs.specs.Eight.{Lanes}
use Rattle.rank_plan.specs.Change.{pairs_at}
use Rattle.rank.proofs.pairs.Paired.pair_sums.Given as goal

abbrev pub invariant-loop-p : goal.invariant-loop-p
invariant-loop-p g l =
    let K = kind g.N.Number.numbers in
    Lanes K g.row.L l.sums (λ t. pairs_at K l.self.plan l.self.a.now l.self.b.now (g.W.Weigh.weights l.self.weigh) l.i (l.j + t) l.p)
