-- Row after row of the fold (LoopLaws: rows-begun, rows_next, rows_last).
use Rattle.number.specs.Kind.{kind}
use Rattle.slabs.proofs.LoopLaws.{rows-begun, rows_next}
use Rattle.rank.proofs.her.her_rows.Goals as goal

pub loop-i-init : goal.loop-i-init
loop-i-init g c = rows-begun (kind g.N.Number.numbers) _ _ _ _

pub loop-i-preserved : goal.loop-i-preserved
loop-i-preserved g c = rows_next (kind g.N.Number.numbers) _ _ _ _ _ _ _ c.loop-i.invariant c.her_row.ensures
