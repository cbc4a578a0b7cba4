-- The blocks before k are scanned.
use Rattle.std.proofs.Common.{◌≡◌}
use Rattle.card.specs.Scanning.{scan_of}
use Rattle.card.proofs.Scan.of.Given as goal

abbrev pub invariant-loop-k : goal.invariant-loop-k
invariant-loop-k l = l.scan ≡ scan_of l.card l.k
