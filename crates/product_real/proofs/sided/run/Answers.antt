-- Element by element, A on the right is the transposed call (Upper: across-ready, across-done).
use Rattle.std.proofs.Common.{refl}
use Rattle.number.specs.Kind.{kind}
use Rattle.number.specs.Scaling.{scale_by}
use Rattle.product_plan.proofs.Upper.{across-ready, across-done}
use Rattle.product_real.proofs.sided.run.Goals as goal

pub narrow-requires : goal.narrow-requires
narrow-requires g c = across-ready c.args.side c.args.u _ _ _ _ _ _ _ refl refl c.requires

pub returns-else-vc-ge8 : goal.returns-else-vc-ge8
returns-else-vc-ge8 g c =
    let n = g.R.Number.numbers in
    let p = c.args in
    across-done (kind n) g.met.R.Number.laws.commutes p.u p.vb p.vc (scale_by n g.R.Number.multipliers p.ops.now.beta) (g.R.Number.multipliers.times p.ops.now.alpha) p.ops.now.a.now p.ops.now.b.now p.c.now p.side
    _ _ _ refl refl c.narrow.ensures
