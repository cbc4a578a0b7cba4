-- The numbers before t are replaced, the others as given (EightLaws: Part).
use Rattle.std.proofs.Common.{◌+◌, ◌-◌}
use Rattle.number.specs.Kind.{kind}
use Rattle.slabs.specs.Eight.{lane}
use Rattle.triangle_plan.specs.Multiply.{own_last}
use Rattle.slabs.proofs.EightLaws.{Part}
use Rattle.triangle_real.proofs.rows.own_last_eight.Given as goal

abbrev pub invariant-loop-t : goal.invariant-loop-t
invariant-loop-t g l = let K = kind g.R.Number.numbers in Part K 8 (λ p. own_last K l.sys l.a l.b (l.q + p) 0 (lane K l.fn.xs p) l.q (l.q + p - l.q)) l.fn.xs l.next l.t
