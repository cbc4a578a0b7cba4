-- Line after line: a walk of steps (WalkLaws).
use Rattle.std.proofs.Common.{◌≡◌}
use Rattle.number.specs.Kind.{kind}
use Rattle.triangle_plan.specs.Walk.{walk}
use Rattle.triangle_plan.specs.Triangles.{times_if}
use Rattle.triangle_plan.specs.Multiply.{multiply_one}
use Rattle.triangle_lines.proofs.multiply.multiply_each.Given as goal

abbrev pub invariant-loop-l : goal.invariant-loop-l
invariant-loop-l g l =
    let K = kind g.N.Number.numbers in
    l.b ≡ walk l.l (λ j. multiply_one K l.sys l.a (times_if K l.alpha) l.k j) l.fn.b
