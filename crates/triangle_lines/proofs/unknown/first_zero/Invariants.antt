-- No zero pivot so far (Solves: Clear).
use Rattle.number.specs.Kind.{kind}
use Rattle.triangle_plan.specs.Solve.{zero_after}
use Rattle.triangle_plan.proofs.Solves.{Clear}
use Rattle.triangle_lines.proofs.unknown.first_zero.Given as goal

abbrev pub invariant-loop-k : goal.invariant-loop-k
invariant-loop-k g l = Clear (zero_after (kind g.N.Number.numbers) l.sys l.a) l.k
