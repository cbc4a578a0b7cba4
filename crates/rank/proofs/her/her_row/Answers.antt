-- Column after column of the named triangle (LoopLaws: span-start; Rows: changed_next, row_done), with alpha·xi weighed once (Laws: her-same).
use Rattle.std.proofs.Common.{arith, ap, ◌∙◌}
use Rattle.number.specs.Kind.{kind}
use Rattle.slabs.specs.Elem.{elem}
use Rattle.slabs.proofs.LoopLaws.{span-start}
use Rattle.rank_plan.proofs.Rows.{changed_next, row_done}
use Rattle.rank_plan.proofs.Laws.{her-same}
use Rattle.rank.proofs.her.her_row.Goals as goal

pub loop-j-init : goal.loop-j-init
loop-j-init g c = span-start (kind g.N.Number.numbers) _ _ _ _ _

pub loop-j-preserved : goal.loop-j-preserved
loop-j-preserved g c =
    let n = g.N.Number.numbers in
    let p = c.args in
    changed_next (kind n) _ _ _ _ _ _ _ _ _ c.loop-j.auto.j c.loop-j.invariant c.her_entry.ensures
    (her-same (kind n) p.alpha (elem (kind n) p.x.now.slab.now p.x.now.view) p.i _ (c.scale_real-w.ensures ∙ ap (n.scale_real p.alpha) c.get.ensures) _)

pub returns : goal.returns
returns g c =
    row_done (kind g.N.Number.numbers) _ _ _ _ _ _ _ _ _ _ (omega (arith, c.requires.square.cols)) c.requires.row c.first_col-j.ensures c.end_col-j-end.ensures
    c.loop-j.auto.j-end
    (omega arith)
    c.loop-j.invariant
