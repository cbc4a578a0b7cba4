-- The blocks before k stand at the buffer's front.
use Rattle.std.proofs.Common.{◌≡◌, ◌*◌, length}
use Rattle.encoding.specs.Stored.{stored}
use Rattle.card.specs.Layout.{card_byte, patterns}
use Rattle.card.proofs.writer.put_card.Given as goal

abbrev pub invariant-loop-k : goal.invariant-loop-k
invariant-loop-k l = (length l.card ≡ length l.fn.card) × (l.card ≡ stored 0 (512 * l.k) (card_byte l.h (patterns l.slab)) l.fn.card)
