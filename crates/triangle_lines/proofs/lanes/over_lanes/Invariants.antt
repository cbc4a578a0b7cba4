-- The numbers before t are replaced, the others as given (EightLaws: Part).
use Rattle.number.specs.Kind.{kind}
use Rattle.slabs.specs.Eight.{lane}
use Rattle.slabs.proofs.EightLaws.{Part}
use Rattle.triangle_lines.proofs.lanes.over_lanes.Given as goal

abbrev pub invariant-loop-t : goal.invariant-loop-t
invariant-loop-t g l = let n = g.N.Number.numbers in Part (kind n) l.t-end (λ p. n.div (lane (kind n) l.fn.xs p) l.d) l.fn.xs l.next l.t
