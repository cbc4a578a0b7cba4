-- All turn at row i: the terms before it, then the others (Lanes: folded-halves).
use Rattle.std.proofs.Common.{arith, ◌+◌, sym, ap}
use Rattle.number.specs.Kind.{kind}
use Rattle.product_plan.specs.Plan.{terms_before}
use Rattle.product_plan.proofs.Lanes.{folded-halves}
use Rattle.product_plan.proofs.Ready.{spans, left-room}
use Rattle.product_real.proofs.folded.left_eight.Goals as goal

pub add_eight-head-requires : goal.add_eight-head-requires
add_eight-head-requires g c =
    let r = c.requires in (
      g.met.R.Number.fit 8 (omega arith),
      spans _ _ _ _ _ _ r.0.head _ _ _ _ r.2 (omega (arith, r.3)) (omega arith) (left-room _ _ _ _ c.args.j r.0 r.1 r.2 (omega (arith, r.3))),
    )

pub add_eight-requires : goal.add_eight-requires
add_eight-requires g c =
    let r = c.requires in (
      g.met.R.Number.fit 8 (omega arith),
      spans _ _ _ _ _ _ r.0.tail _ _ _ _ r.2 (omega (arith, r.3)) (left-room _ _ _ _ c.args.j r.0 r.1 r.2 (omega (arith, r.3))) (omega arith),
    )

pub returns : goal.returns
returns g c =
    let p = c.args in
    let r = c.requires in
    folded-halves (kind g.R.Number.numbers) p.plan p.ops.now.a.now p.ops.now.b.now p.i p.j p.i _ _ _ (λ t. sym (ap (λ s. terms_before s p.i (p.j + t)) r.1))
    (left-room _ _ _ _ p.j r.0 r.1 r.2 (omega (arith, r.3)))
    c.zeros.ensures c.add_eight-head.ensures c.add_eight.ensures
