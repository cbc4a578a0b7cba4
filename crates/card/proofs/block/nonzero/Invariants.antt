-- The bytes before j are zero.
use Rattle.std.proofs.Common.{◌≡◌, false}
use Rattle.card.specs.Scanning.{nonzero}
use Rattle.card.proofs.block.nonzero.Given as goal

abbrev pub invariant-loop-j : goal.invariant-loop-j
invariant-loop-j l = nonzero l.b l.from l.j ≡ false
