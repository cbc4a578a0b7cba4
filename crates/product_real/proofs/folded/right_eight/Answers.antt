-- Before they turn, while they do, after (Lanes: folded-lanes).
use Rattle.std.proofs.Common.{ℕ, ◌≡◌, ◌+◌, arith, ap}
use Rattle.number.specs.Kind.{kind}
use Rattle.product_plan.specs.Plan.{terms_before}
use Rattle.product_plan.proofs.Lanes.{folded-lanes}
use Rattle.product_plan.proofs.Ready.{spans, right-room}
use Rattle.product_real.proofs.folded.right_eight.Goals as goal

pub add_eight-head-requires : goal.add_eight-head-requires
add_eight-head-requires g c =
    let r = c.requires in (
      g.met.R.Number.fit 8 (omega arith),
      spans _ _ _ _ _ _ r.0.head _ _ _ _ r.2 (omega (arith, r.3)) (omega arith) (right-room _ _ _ _ c.args.j r.0 r.1 r.2 (omega (arith, r.3))),
    )

pub add_turning-bent-requires : goal.add_turning-bent-requires
add_turning-bent-requires g c =
    let r = c.requires in (
      g.met.R.Number.fit 8 (omega arith),
      (r.0, r.1, r.2, r.3, r.4, omega arith, omega (arith, right-room _ _ _ _ (c.args.j + 7) r.0 r.1 r.2 (omega (arith, r.3)))),
    )

pub add_eight-requires : goal.add_eight-requires
add_eight-requires g c =
    let r = c.requires in (
      g.met.R.Number.fit 8 (omega arith),
      spans _ _ _ _ _ _ r.0.tail _ _ _ _ r.2 (omega (arith, r.3)) (omega (arith, right-room _ _ _ _ (c.args.j + 7) r.0 r.1 r.2 (omega (arith, r.3)))) (omega arith),
    )

pub returns : goal.returns
returns g c =
    let p = c.args in
    let r = c.requires in
    let turn : (t : ℕ) → terms_before p.plan.turn p.i (p.j + t) ≡ p.j + t + 1 = λ t. ap (λ s. terms_before s p.i (p.j + t)) r.1 in
    folded-lanes (kind g.R.Number.numbers) p.plan p.ops.now.a.now p.ops.now.b.now p.i p.j (p.j + 1) (p.j + 8) _ _ _ _ (λ t q. omega (arith, turn t)) (λ t q. omega (arith, turn t))
    (omega (arith, right-room _ _ _ _ (p.j + 7) r.0 r.1 r.2 (omega (arith, r.3))))
    c.zeros.ensures c.add_eight-head.ensures c.add_turning-bent.ensures c.add_eight.ensures
