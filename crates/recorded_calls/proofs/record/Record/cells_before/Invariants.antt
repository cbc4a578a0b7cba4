-- A slab has at most 144 cells, and there are at most three before a slab.
use Rattle.std.proofs.Common.{◌≤◌, ◌*◌}
use Rattle.recorded_calls.proofs.record.Record.cells_before.Given as goal

abbrev pub invariant-loop-j : goal.invariant-loop-j
invariant-loop-j l = l.cells ≤ 144 * l.j
