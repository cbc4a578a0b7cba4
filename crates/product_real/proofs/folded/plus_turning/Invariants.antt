-- The sums before t have their term, the others are as given (EightLaws: Part).
use Rattle.std.proofs.Common.{◌+◌}
use Rattle.number.specs.Kind.{kind}
use Rattle.slabs.specs.Eight.{lane}
use Rattle.slabs.proofs.EightLaws.{Part}
use Rattle.product_plan.specs.Plan.{folded_term}
use Rattle.product_real.proofs.folded.plus_turning.Given as goal

abbrev pub invariant-loop-t : goal.invariant-loop-t
invariant-loop-t g l =
    let n = g.R.Number.numbers in
    Part (kind n) 8 (λ q. n.add (lane (kind n) l.fn.sums q) (folded_term (kind n) l.plan l.ops.a.now l.ops.b.now l.i (l.j + q) l.p)) l.fn.sums l.next l.t
