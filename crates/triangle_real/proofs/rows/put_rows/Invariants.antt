-- Number after number is put into its row: a walk of steps (WalkLaws).
use Rattle.std.proofs.Common.{◌≡◌, ◌-◌}
use Rattle.number.specs.Kind.{kind}
use Rattle.triangle_plan.specs.Lanes.{put_rows}
use Rattle.triangle_real.proofs.rows.put_rows.Given as goal

abbrev pub invariant-loop-i : goal.invariant-loop-i
invariant-loop-i g l = l.b ≡ put_rows (kind g.R.Number.numbers) l.last l.v l.q l.first l.xs (l.i - l.first) l.fn.b
