-- The sums before t have their term, the others are as given (EightLaws: Part).
use Rattle.std.proofs.Common.{◌+◌}
use Rattle.number.specs.Kind.{kind}
use Rattle.slabs.specs.Eight.{lane}
use Rattle.slabs.specs.Elem.{elem}
use Rattle.slabs.proofs.EightLaws.{Part}
use Rattle.slabs.proofs.lanes.minus_lanes.Given as goal

abbrev pub invariant-loop-t : goal.invariant-loop-t
invariant-loop-t g l = let n = g.N.Number.numbers in Part (kind n) l.t-end (λ q. n.sub (lane (kind n) l.fn.sums q) (n.mul l.x (elem (kind n) l.s l.v l.p (l.j + q)))) l.fn.sums l.next l.t
