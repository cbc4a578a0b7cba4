-- The numbers before t are replaced, the others as given (EightLaws: Part).
use Rattle.std.proofs.Common.{◌+◌}
use Rattle.number.specs.Kind.{kind}
use Rattle.slabs.specs.Elem.{elem}
use Rattle.slabs.proofs.EightLaws.{Part}
use Rattle.triangle_lines.proofs.lanes.lanes_at.Given as goal

abbrev pub invariant-loop-t : goal.invariant-loop-t
invariant-loop-t g l = let n = g.N.Number.numbers in Part (kind n) l.t-end (λ p. elem (kind n) l.s l.v l.q (l.l + p)) l.initial.next l.next l.t
