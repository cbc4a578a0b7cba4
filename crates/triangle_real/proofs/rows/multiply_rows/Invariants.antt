-- Block after block of the only line: a walk of steps (WalkLaws: walk_block).
use Rattle.std.proofs.Common.{min, ◌≡◌, ◌-◌}
use Rattle.number.specs.Kind.{kind}
use Rattle.triangle_plan.specs.Walk.{walk}
use Rattle.triangle_plan.specs.Multiply.{multiply_one}
use Rattle.triangle_real.proofs.rows.multiply_rows.Given as goal

abbrev pub invariant-loop-k : goal.invariant-loop-k
invariant-loop-k g l = l.b ≡ walk (min l.k l.m) (λ i. multiply_one (kind g.R.Number.numbers) l.sys l.a (λ x. x) i 0) l.fn.b

abbrev pub decreases-loop-k : goal.decreases-loop-k
decreases-loop-k g l = l.m - l.k
