-- An element more (WalkLaws: walk-next, walk_one); a vector is one line (Multiplies: only-line).
use Rattle.std.proofs.Common.{refl, arith}
use Rattle.number.specs.Kind.{kind}
use Rattle.triangle_plan.proofs.WalkLaws.{walk-next, walk_one, walk_end}
use Rattle.triangle_plan.proofs.Multiplies.{only-line}
use Rattle.triangle_lines.proofs.multiply.multiply_vector.Goals as goal

pub loop-k-preserved : goal.loop-k-preserved
loop-k-preserved g c = walk-next _ _ _ _ _ c.loop-k.invariant (walk_one _ _ _ c.multiply_lanes.ensures)

pub returns : goal.returns
returns g c =
    only-line (kind g.N.Number.numbers) _ _ _ _ _ _ c.requires.one refl
    (walk_end _ _ _ _ _ c.loop-k.auto.k-end (omega arith) c.loop-k.invariant)
