-- Of one line, two elements share a place where the stride is 0.
use Rattle.std.proofs.Common.{◌≡◌, ap, sym, ◌∙◌, ℕ, ◌*◌, ◌<◌, one-mul, mul-pos, arith, ltb, ltb-true, lt-ltb, ne_eqb}
use Rattle.view.proofs.AnyLaws.{both_ways}
use Rattle.view.proofs.OverlapLaws.{meets→meeting, meeting→meets}
use Rattle.view.specs.Steps.{meets}
use Rattle.call_check.proofs.Multiples.{missing}
use Rattle.call_check.proofs.sharing.line_meets.Goals as goal

one : (k : ℕ) → k < 1 → k * 0 ≡ 0
one k h = let e : k ≡ 0 = omega arith in ap (λ (k : ℕ). k * 0) e

pub returns-then-stride-eq0 : goal.returns-then-stride-eq0
returns-then-stride-eq0 c =
    let n = c.args.n in
    let z = c.args.stride in
    both_ways (ltb 1 n) (meets 1 0 n z)
    (λ t. meeting→meets 1 0 n z (record { k = 0; d = 1; k_lt = omega arith; d-lt = ltb-true 1 n t; some = omega arith; same = sym (one-mul z ∙ c.if-stride-eq0.true) }))
    (λ t. let m = meets→meeting 1 0 n z t in lt-ltb 1 n (omega (arith, m.k_lt, m.d-lt, m.some)))

pub returns-else-stride-eq0 : goal.returns-else-stride-eq0
returns-else-stride-eq0 c =
    let z = c.args.stride in
    ne_eqb z 0 c.if-stride-eq0.false
    ∙ missing 1 0 c.args.n z
    (λ m. omega (arith, m.same, one m.k m.k_lt, mul-pos {m = m.d} {n = z} (omega (arith, m.k_lt, m.some)) (omega arith)))
