-- Each of the eight sums is the run so far.
use Rattle.std.proofs.Common.{◌+◌, ◌-◌}
use Rattle.number.specs.Kind.{kind}
use Rattle.slabs.specs.Eight.{lane, Lanes}
use Rattle.slabs.specs.Run.{plus_terms}
use Rattle.product_plan.specs.Plan.{folded_term}
use Rattle.product_real.proofs.folded.add_turning.Given as goal

abbrev pub invariant-loop-p : goal.invariant-loop-p
invariant-loop-p g l = let K = kind g.R.Number.numbers in Lanes K 8 l.totals (λ t. plus_terms K (lane K l.fn.sums t) (folded_term K l.plan l.ops.a.now l.ops.b.now l.i (l.j + t)) l.from (l.p - l.from))
