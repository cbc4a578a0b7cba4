-- Line after line: a walk of steps (WalkLaws).
use Rattle.std.proofs.Common.{◌≡◌}
use Rattle.number.specs.Kind.{kind}
use Rattle.triangle_plan.specs.Walk.{walk}
use Rattle.triangle_plan.specs.Triangles.{times_if}
use Rattle.triangle_plan.specs.Solve.{solve_unknown}
use Rattle.triangle_lines.proofs.solve.solve_each.Given as goal

abbrev pub invariant-loop-l : goal.invariant-loop-l
invariant-loop-l g l =
    let K = kind g.N.Number.numbers in
    l.b ≡ walk l.l (λ j. solve_unknown K l.sys (times_if K l.alpha) l.a l.k j) l.fn.b
