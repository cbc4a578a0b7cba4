-- Each turn adds a term to each of the sums (Lanes: lanes-start, lanes-next).
use Rattle.std.proofs.Common.{refl, arith, rules}
use Rattle.number.specs.Kind.{kind}
use Rattle.product_plan.proofs.Lanes.{lanes-start, lanes-next}
use Rattle.product_plan.proofs.operands.Operands.add_lanes.Goals as goal

pub loop-p-init : goal.loop-p-init
loop-p-init g c = lanes-start (kind g.N.Number.numbers) _ _ _ _ (record { count = search rules; sum = λ t l. refl })

pub elem_conj-u-requires : goal.elem_conj-u-requires
elem_conj-u-requires g c = (c.requires.1 0 c.requires.0).left c.loop-p.p (omega arith)

pub plus_conj_lanes-totals-requires : goal.plus_conj_lanes-totals-requires
plus_conj_lanes-totals-requires g c = (search rules, λ t l. (c.requires.1 t l).right c.loop-p.p (omega arith))

pub loop-p-preserved : goal.loop-p-preserved
loop-p-preserved g c = lanes-next (kind g.N.Number.numbers) _ _ _ _ _ _ _ _ _ _ _ c.loop-p.auto.p c.loop-p.invariant c.elem_conj-u.ensures c.plus_conj_lanes-totals.ensures
