-- The numbers before t are replaced, the others as given (EightLaws: Part).
use Rattle.number.specs.Kind.{kind}
use Rattle.slabs.specs.Eight.{lane}
use Rattle.slabs.proofs.EightLaws.{Part}
use Rattle.triangle_lines.proofs.lanes.times_lanes.Given as goal

abbrev pub invariant-loop-t : goal.invariant-loop-t
invariant-loop-t g l = let n = g.N.Number.numbers in Part (kind n) l.t-end (λ p. n.mul l.factor (lane (kind n) l.fn.xs p)) l.fn.xs l.next l.t
