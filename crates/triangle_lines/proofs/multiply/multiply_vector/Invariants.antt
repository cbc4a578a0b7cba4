-- Element after element of the only line: a walk of steps (WalkLaws).
use Rattle.std.proofs.Common.{◌≡◌}
use Rattle.number.specs.Kind.{kind}
use Rattle.triangle_plan.specs.Walk.{walk}
use Rattle.triangle_plan.specs.Multiply.{multiply_one}
use Rattle.triangle_lines.proofs.multiply.multiply_vector.Given as goal

abbrev pub invariant-loop-k : goal.invariant-loop-k
invariant-loop-k g l = l.b ≡ walk l.k (λ k. multiply_one (kind g.N.Number.numbers) l.sys l.a (λ x. x) k 0) l.fn.b
