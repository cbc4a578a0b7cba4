-- The bytes before j are read.
use Rattle.std.proofs.Common.{◌≡◌, ℕ, ◌+◌, ◌<◌, get_or, length}
use Rattle.encoding.proofs.little.bytes_at.Given as goal

abbrev pub invariant-loop-j : goal.invariant-loop-j
invariant-loop-j g l = (length l.bytes ≡ g.row.N) × ((i : ℕ) → i < l.j → get_or l.bytes i 0 ≡ get_or l.s (l.at + (l.k + i)) 0)
