-- No zero pivot so far, and the unknowns so far solved (Solves: Clear; WalkLaws).
use Rattle.std.proofs.Common.{◌≡◌}
use Rattle.number.specs.Kind.{kind}
use Rattle.triangle_plan.specs.Walk.{walk}
use Rattle.triangle_plan.specs.Solve.{solve_unknown, zero_after}
use Rattle.triangle_plan.proofs.Solves.{Clear}
use Rattle.triangle_lines.proofs.trsv.solve_vector.Given as goal

abbrev pub invariant-loop-k : goal.invariant-loop-k
invariant-loop-k g l =
    let K = kind g.N.Number.numbers in
    Clear (zero_after K l.sys l.a) l.k × (l.b ≡ walk l.k (λ i. solve_unknown K l.sys (λ x. x) l.a i 0) l.fn.b)
