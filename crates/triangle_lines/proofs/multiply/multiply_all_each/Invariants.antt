-- Element after element, each in every line: a walk of steps (WalkLaws).
use Rattle.std.proofs.Common.{◌≡◌}
use Rattle.number.specs.Kind.{kind}
use Rattle.triangle_plan.specs.Walk.{walk}
use Rattle.triangle_plan.specs.Triangles.{times_if}
use Rattle.triangle_plan.specs.Multiply.{multiply_across}
use Rattle.triangle_lines.proofs.multiply.multiply_all_each.Given as goal

abbrev pub invariant-loop-k : goal.invariant-loop-k
invariant-loop-k g l =
    let K = kind g.N.Number.numbers in
    l.b ≡ walk l.k (λ k. multiply_across K l.sys l.a (times_if K l.alpha) k) l.fn.b
