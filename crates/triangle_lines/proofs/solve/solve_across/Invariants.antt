-- Block after block of the lines is a walk over them (WalkLaws: walk_block, walk_end).
use Rattle.std.proofs.Common.{min, ◌≡◌, ◌-◌}
use Rattle.number.specs.Kind.{kind}
use Rattle.triangle_plan.specs.Walk.{walk}
use Rattle.triangle_plan.specs.Triangles.{times_if}
use Rattle.triangle_plan.specs.Solve.{solve_unknown}
use Rattle.triangle_lines.proofs.solve.solve_across.Given as goal

abbrev pub invariant-loop-l : goal.invariant-loop-l
invariant-loop-l g l =
    let K = kind g.N.Number.numbers in
    l.b ≡ walk (min l.l l.n) (λ j. solve_unknown K l.sys (times_if K l.alpha) l.a l.k j) l.fn.b

abbrev pub decreases-loop-l : goal.decreases-loop-l
decreases-loop-l g l = l.n - l.l
