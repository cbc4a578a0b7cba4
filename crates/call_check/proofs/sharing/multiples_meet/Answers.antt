-- Each step keeps what the invariant says, and each way out is decided by it.
use Rattle.std.proofs.Common.{arith}
use Rattle.call_check.proofs.Multiples.{found, missing, first, past, past_next, carry, no-carry, none-meet}
use Rattle.call_check.proofs.sharing.multiples_meet.Goals as goal
use Rattle.call_check.proofs.sharing.multiples_meet.Goals.{then-y-m, else-y-m}

pub loop-init : goal.loop-init
loop-init c = first c.args.x c.args.cols c.args.y c.requires.moves

pub returns-then-cols-quot : goal.returns-then-cols-quot
returns-then-cols-quot c =
    let a = c.args in
    missing _ _ _ _ (none-meet a.rows a.x a.cols a.y c.requires.moves (λ j d s t. past _ _ _ _ _ _ _ _ c.loop.invariant c.if-cols-quot.true j d s))

pub returns-then-rem-eq0 : goal.returns-then-rem-eq0
returns-then-rem-eq0 c =
    let l = c.loop in
    found _ _ _ _ l.counter l.quot c.loop-test.true c.if-cols-quot.false
    (omega (arith, l.invariant.k-pos)) (omega (arith, l.invariant.whole, c.if-rem-eq0.true))

pub returns-then-cols-quot-2 : goal.returns-then-cols-quot-2
returns-then-cols-quot-2 c =
    let a = c.args in
    missing _ _ _ _ (none-meet a.rows a.x a.cols a.y c.requires.moves (λ j d s t. past_next _ _ _ _ _ _ _ _ c.loop.invariant (omega arith) (omega arith) j d s))

pub loop-preserved : goal.loop-preserved
loop-preserved c =
    elim c.if-y-m.branch [
      | then-y-m w ↦ rw (w.quot-is, w.rem-is) (carry _ _ _ _ _ _ _ _ c.loop.invariant (omega arith) w.if-y-m.true)
      | else-y-m w ↦ rw (w.quot-is, w.rem-is) (no-carry _ _ _ _ _ _ _ _ c.loop.invariant (omega arith) w.if-y-m.false)
    ]

pub returns : goal.returns
returns c =
    let a = c.args in
    missing _ _ _ _ (none-meet a.rows a.x a.cols a.y c.requires.moves (λ j d s t u. c.loop.invariant.none j d s (omega arith) u))
