-- Unknown after unknown, each across the lines: a walk of steps (WalkLaws).
use Rattle.std.proofs.Common.{◌≡◌}
use Rattle.number.specs.Kind.{kind}
use Rattle.triangle_plan.specs.Walk.{walk}
use Rattle.triangle_plan.specs.Triangles.{times_if}
use Rattle.triangle_plan.specs.Solve.{solve_across}
use Rattle.triangle_lines.proofs.solve.solve_unknowns_each.Given as goal

abbrev pub invariant-loop-k : goal.invariant-loop-k
invariant-loop-k g l =
    let K = kind g.N.Number.numbers in
    l.b ≡ walk l.k (λ k. solve_across K l.sys (times_if K l.alpha) l.a l.fn.n k) l.fn.b
