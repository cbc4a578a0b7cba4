-- The bytes before j are stored, and `rest` is n without them.
use Rattle.std.proofs.Common.{◌≡◌, length}
use Rattle.encoding.specs.Little.{byte_of}
use Rattle.encoding.specs.Stored.{stored}
use Rattle.encoding.proofs.LittleLaws.{Rest}
use Rattle.encoding.proofs.little.put.Given as goal

abbrev pub invariant-loop-j : goal.invariant-loop-j
invariant-loop-j l = (length l.s ≡ length l.fn.s) × (l.s ≡ stored l.at l.j (byte_of l.n) l.fn.s) × Rest l.n l.j l.rest
