-- At block 0 the header is the block's own.
use Rattle.std.proofs.Common.{◌∙◌}
use Rattle.card.specs.Scanning.{heading}
use Rattle.card.proofs.Scan.step.Goals as goal

pub departs-requires : goal.departs-requires
unfolding heading
departs-requires c = λ e. c.heading-header.ensures ∙ (λ i. heading (e i) c.args.self.header c.args.b.now)
