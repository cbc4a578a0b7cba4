-- Each turn adds a term to each of the eight sums, from places side by side (Lanes: lanes-start, beside-next).
use Rattle.std.proofs.Common.{refl, arith, rules, ap, sym, ◌∙◌, ◌+◌}
use Rattle.number.specs.Kind.{kind}
use Rattle.slabs.proofs.Shown.{inside, beside}
use Rattle.product_plan.proofs.Lanes.{lanes-start, beside-next}
use Rattle.product_plan.proofs.Ready.{columns-within}
use Rattle.product_real.proofs.block.add_beside.Goals as goal

pub loop-p-init : goal.loop-p-init
loop-p-init g c = lanes-start (kind g.R.Number.numbers) _ _ _ _ (record { count = search rules; sum = λ t l. refl })

pub place-requires : goal.place-requires
place-requires g c = let h = c.requires.0.right c.loop-p.p (omega arith) in record { fits = h.fits; row = h.row; col = omega (arith, h.col) }

pub plus_beside-totals-requires : goal.plus_beside-totals-requires
plus_beside-totals-requires g c = (
  g.met.R.Number.fit 8 (omega arith),
  λ t l. let h = columns-within _ 7 t (c.requires.0.right c.loop-p.p (omega arith)) (omega arith) in
      inside _ _ _ _ h _ (ap (λ q. q + t) c.place.ensures.is ∙ sym (beside c.args.f.right _ c.loop-p.p c.args.j t c.requires.1 h)),
)

pub loop-p-preserved : goal.loop-p-preserved
loop-p-preserved g c =
    let p = c.args in
    beside-next (kind g.R.Number.numbers) g.met.R.Real.self_conjugate p.f p.ops.now.a.now p.ops.now.b.now _ p.i p.j _ _ _ _ _ _ _ c.requires.1
    (λ t l. columns-within _ 7 t (c.requires.0.right c.loop-p.p (omega arith)) (omega arith))
    c.place.ensures.is
    c.loop-p.auto.p
    c.loop-p.invariant
    c.elem-x.ensures
    c.plus_beside-totals.ensures
