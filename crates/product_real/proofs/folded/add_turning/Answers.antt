-- Each turn adds a term to each of the eight sums (Lanes: lanes-start, lanes-on).
use Rattle.std.proofs.Common.{refl, rules}
use Rattle.number.specs.Kind.{kind}
use Rattle.product_plan.proofs.Lanes.{lanes-start, lanes-on}
use Rattle.product_real.proofs.folded.add_turning.Goals as goal

pub loop-p-init : goal.loop-p-init
loop-p-init g c = lanes-start (kind g.R.Number.numbers) _ _ _ _ (record { count = search rules; sum = λ t l. refl })

pub loop-p-preserved : goal.loop-p-preserved
loop-p-preserved g c = lanes-on (kind g.R.Number.numbers) _ _ _ _ _ _ c.loop-p.auto.p c.loop-p.invariant c.plus_turning-totals.ensures
