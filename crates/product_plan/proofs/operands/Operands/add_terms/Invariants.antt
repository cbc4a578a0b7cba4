-- The sum is the run so far.
use Rattle.std.proofs.Common.{◌≡◌, ◌-◌}
use Rattle.number.specs.Kind.{kind}
use Rattle.slabs.specs.Run.{plus_terms}
use Rattle.product_plan.specs.Plan.{term}
use Rattle.product_plan.proofs.operands.Operands.add_terms.Given as goal

abbrev pub invariant-loop-p : goal.invariant-loop-p
invariant-loop-p g l = let K = kind g.N.Number.numbers in l.total ≡ plus_terms K l.fn.sum (term K l.f l.self.a.now l.self.b.now l.i l.j) l.from (l.p - l.from)
