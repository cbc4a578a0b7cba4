-- The numbers before t are replaced, the others as given (EightLaws: Part).
use Rattle.std.proofs.Common.{◌+◌, ◌-◌}
use Rattle.number.specs.Kind.{kind}
use Rattle.triangle_plan.specs.Multiply.{own_first}
use Rattle.slabs.proofs.EightLaws.{Part}
use Rattle.triangle_real.proofs.rows.own_first_eight.Given as goal

abbrev pub invariant-loop-t : goal.invariant-loop-t
invariant-loop-t g l = let K = kind g.R.Number.numbers in Part K 8 (λ p. own_first K l.sys l.a l.b (l.q + p) 0 (7 - p)) l.initial.next l.next l.t
