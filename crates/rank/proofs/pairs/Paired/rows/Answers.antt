-- Row after row of the fold (LoopLaws: rows-begun, rows_next), whichever way a row goes.
use Rattle.std.proofs.Common.{◌∙◌}
use Rattle.number.specs.Kind.{kind}
use Rattle.slabs.proofs.LoopLaws.{rows-begun, rows_next}
use Rattle.rank.proofs.pairs.Paired.rows.Goals as goal
use Rattle.rank.proofs.pairs.Paired.rows.Goals.{then-self+then-self-2, else-self}

pub loop-i-init : goal.loop-i-init
loop-i-init g c = rows-begun (kind g.N.Number.numbers) _ _ _ _

pub loop-i-preserved : goal.loop-i-preserved
loop-i-preserved g c =
    rows_next (kind g.N.Number.numbers) _ _ _ _ _ _ _ c.loop-i.invariant
    (elim c.if-self.branch [ then-self+then-self-2 w ↦ w.c-is ∙ w.wide_row.ensures | else-self w ↦ w.c-is ∙ w.narrow_row.ensures ])
