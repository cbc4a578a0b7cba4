-- The bytes before j are the header's.
use Rattle.std.proofs.Common.{◌≡◌, length}
use Rattle.encoding.specs.Stored.{stored}
use Rattle.card.specs.Layout.{header_byte}
use Rattle.card.proofs.fill.header_block.Given as goal

abbrev pub invariant-loop-j : goal.invariant-loop-j
invariant-loop-j l = (length l.b ≡ length l.fn.b) × (l.b ≡ stored 0 l.j (header_byte l.fn.h) l.fn.b)
