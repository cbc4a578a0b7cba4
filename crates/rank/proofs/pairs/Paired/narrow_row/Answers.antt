-- Each column is settled with its own sum (Sums: settled; LoopLaws: span-start, span-next; Rows: end_le, row_done).
use Rattle.std.proofs.Common.{arith, ap, refl}
use Rattle.number.specs.Kind.{kind}
use Rattle.number.specs.Scaling.{scale_by}
use Rattle.slabs.proofs.LoopLaws.{span-start, span-next}
use Rattle.rank_plan.proofs.Rows.{end_le, row_done, row_lt}
use Rattle.rank_plan.proofs.Sums.{settled}
use Rattle.rank.proofs.pairs.Paired.narrow_row.Goals as goal

pub loop-j-init : goal.loop-j-init
loop-j-init g c = span-start (kind g.N.Number.numbers) _ _ _ _ _

pub pair_sum-requires-clause-col : goal.pair_sum-requires-clause-col
pair_sum-requires-clause-col g c =
    let p = c.args.self.now.plan in
    omega (arith, end_le p.uplo c.args.i p.target.cols (row_lt _ _ c.requires.square _ c.requires.row _ refl), c.end_col-end.ensures)

pub loop-j-preserved : goal.loop-j-preserved
loop-j-preserved g c =
    let n = g.N.Number.numbers in
    let s = c.args.self.now in
    span-next (kind n) _ _ _ _ _ _ _ _ c.loop-j.auto.j c.loop-j.invariant
    (settled (kind n) s.plan.target c.args.i c.loop-j.j (scale_by n g.N.Number.multipliers s.beta) _ _ c.loop-j.c _ (ap (g.W.Weigh.weights s.weigh).sum c.pair_sum.ensures)
    c.settle.ensures)

pub returns : goal.returns
returns g c =
    row_done (kind g.N.Number.numbers) _ _ _ _ _ _ _ _ _ _ refl (row_lt _ _ c.requires.square _ c.requires.row _ refl) c.first_col-j.ensures c.end_col-end.ensures
    c.loop-j.auto.j-end
    (omega arith)
    c.loop-j.invariant
