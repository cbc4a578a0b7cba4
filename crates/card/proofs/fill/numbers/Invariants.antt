-- The numbers before i stand in the block's front, eight bytes each.
use Rattle.std.proofs.Common.{◌≡◌, ◌*◌, length}
use Rattle.encoding.specs.Stored.{stored}
use Rattle.card.specs.Writing.{number_byte}
use Rattle.card.proofs.fill.numbers.Given as goal

abbrev pub invariant-loop-i : goal.invariant-loop-i
invariant-loop-i l = (length l.b ≡ length l.fn.b) × (l.b ≡ stored 0 (8 * l.i) (number_byte l.left) l.fn.b)
