-- Block k, behind those that are scanned.
use Rattle.std.proofs.Common.{arith, ap, ◌∙◌}
use Rattle.card.specs.declared.Scan.{Scan}
use Rattle.card.proofs.ScanLaws.{part-is, scan-next, scan_blocks}
use Rattle.card.proofs.Scan.of.Goals as goal

pub step-scan-requires : goal.step-scan-requires
step-scan-requires c = omega (arith, ap (λ (s : Scan). s.blocks) c.loop-k.invariant ∙ scan_blocks _ _)

pub loop-k-preserved : goal.loop-k-preserved
loop-k-preserved c = scan-next _ _ _ _ _ c.loop-k.invariant (part-is _ _) c.step-scan.ensures
