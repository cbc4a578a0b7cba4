-- Number after number is put into its column: a walk of steps (WalkLaws).
use Rattle.std.proofs.Common.{◌≡◌, ◌-◌}
use Rattle.number.specs.Kind.{kind}
use Rattle.triangle_plan.specs.Lanes.{put_lanes}
use Rattle.triangle_lines.proofs.lanes.put_lanes.Given as goal

abbrev pub invariant-loop-t : goal.invariant-loop-t
invariant-loop-t g l = let K = kind g.N.Number.numbers in l.b ≡ put_lanes K l.v l.q l.l l.first l.xs (l.t - l.first) l.fn.b
