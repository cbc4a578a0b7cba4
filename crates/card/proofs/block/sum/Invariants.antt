-- The bytes before j are added up; a byte is at most 255.
use Rattle.std.proofs.Common.{◌≡◌, ◌≤◌, ◌*◌, get_or}
use Rattle.card.specs.Layout.{total}
use Rattle.card.proofs.block.sum.Given as goal

abbrev pub invariant-loop-j : goal.invariant-loop-j
invariant-loop-j l = (l.t ≤ 255 * l.j) × (l.t ≡ total l.j (λ i. get_or l.b i 0))
