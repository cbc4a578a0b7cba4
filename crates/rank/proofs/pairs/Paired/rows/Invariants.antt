-- The rows before i are settled.
use Rattle.std.proofs.Common.{◌≡◌}
use Rattle.number.specs.Kind.{kind}
use Rattle.number.specs.Scaling.{scale_by}
use Rattle.view.specs.Triangle.{in_triangle}
use Rattle.slabs.specs.Update.{update_rows}
use Rattle.rank_plan.specs.Change.{paired_change}
use Rattle.rank.proofs.pairs.Paired.rows.Given as goal

abbrev pub invariant-loop-i : goal.invariant-loop-i
invariant-loop-i g l =
    let n = g.N.Number.numbers in
    let s = l.self in
    l.c
    ≡ update_rows (kind n) s.plan.target (in_triangle s.plan.uplo) (paired_change (kind n) s.plan s.a.now s.b.now (g.W.Weigh.weights s.weigh) (scale_by n g.N.Number.multipliers s.beta)) l.i l.fn.c
