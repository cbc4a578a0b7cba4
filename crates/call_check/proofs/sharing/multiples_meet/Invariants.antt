-- The invariant: k * x is quot * y + rem, and no smaller multiple of x met one of y.
use Rattle.call_check.proofs.Multiples.{At}
use Rattle.call_check.proofs.sharing.multiples_meet.Given as goal

abbrev pub invariant-loop : goal.invariant-loop
invariant-loop l = At l.x l.cols l.y l.q l.m l.counter l.quot l.rem
