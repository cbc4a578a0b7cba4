-- The sum is the run so far.
use Rattle.std.proofs.Common.{◌≡◌, ◌-◌}
use Rattle.number.specs.Kind.{complex}
use Rattle.slabs.specs.Run.{plus_terms}
use Rattle.product_plan.specs.Plan.{term}
use Rattle.product_complex.proofs.left.add_left.Given as goal

abbrev pub invariant-loop-p : goal.invariant-loop-p
invariant-loop-p l = l.total ≡ plus_terms complex l.fn.sum (term complex l.f l.ops.a.now l.ops.b.now l.i l.j) l.from (l.p - l.from)
