-- Each term goes into the eight sums of a column (Lanes: sums-start, column-sums-next).
use Rattle.std.proofs.Common.{arith, ◌+◌}
use Rattle.number.specs.Kind.{kind}
use Rattle.view.proofs.TransposeLaws.{transposed-accepted}
use Rattle.product_plan.proofs.Lanes.{sums-start, column-sums-next}
use Rattle.product_real.proofs.gemv.column_sums.Goals as goal

pub loop-p-init : goal.loop-p-init
loop-p-init g c = sums-start (kind g.R.Number.numbers) _ _ c.zeros-sums.ensures

pub elem-requires : goal.elem-requires
elem-requires g c = let r = c.requires in r.0.right _ _ (omega arith) (omega (arith, r.2))

pub plus_lanes-sums-requires : goal.plus_lanes-sums-requires
plus_lanes-sums-requires g c = (
  g.met.R.Number.fit 8 (omega arith),
  λ t l. let h = c.requires.0.left (c.args.i + t) c.loop-p.p (omega (arith, c.requires.1)) (omega arith) in
      rw c.transposed-v.ensures (record { fits = transposed-accepted _ _ h.fits; row = h.col; col = h.row }),
)

pub loop-p-preserved : goal.loop-p-preserved
loop-p-preserved g c =
    let p = c.args in
    column-sums-next (kind g.R.Number.numbers) g.met.R.Real.self_conjugate g.met.R.Number.laws.commutes p.plan.factors p.ops.now.a.now p.ops.now.b.now p.i c.loop-p.p _ _ _ c.loop-p.invariant
    c.elem.ensures
    (rw c.transposed-v.ensures at c.plus_lanes-sums.ensures)
