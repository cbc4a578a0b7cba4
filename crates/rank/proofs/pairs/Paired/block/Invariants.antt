-- The columns before j are settled.
use Rattle.std.proofs.Common.{◌≡◌}
use Rattle.number.specs.Kind.{kind}
use Rattle.number.specs.Scaling.{scale_by}
use Rattle.slabs.specs.Update.{span}
use Rattle.rank_plan.specs.Change.{paired_change}
use Rattle.rank.proofs.pairs.Paired.block.Given as goal

abbrev pub invariant-loop-j : goal.invariant-loop-j
invariant-loop-j g l =
    let n = g.N.Number.numbers in
    let s = l.self in
    l.c ≡ span (kind n) s.plan.target (paired_change (kind n) s.plan s.a.now s.b.now (g.W.Weigh.weights s.weigh) (scale_by n g.N.Number.multipliers s.beta)) l.i l.first l.j l.fn.c
