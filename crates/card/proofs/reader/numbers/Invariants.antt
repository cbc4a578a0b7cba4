-- The numbers before i stand at the slab's front.
use Rattle.std.proofs.Common.{◌≡◌, length}
use Rattle.encoding.specs.Stored.{stored}
use Rattle.card.specs.Reading.{number_of}
use Rattle.card.proofs.reader.numbers.Given as goal

abbrev pub invariant-loop-i : goal.invariant-loop-i
invariant-loop-i l = (length l.slab ≡ length l.fn.slab) × (l.slab ≡ stored 0 l.i (number_of l.card) l.fn.slab)
