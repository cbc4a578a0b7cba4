-- A block of lines more, and the last one (WalkLaws: walk_block).
use Rattle.std.proofs.Common.{◌+◌, ◌-◌, ◌≡◌, min, arith, refl}
use Rattle.triangle_plan.proofs.WalkLaws.{walk_block, walk_end}
use Rattle.number.specs.Kind.{kind}
use Rattle.triangle_plan.proofs.Multiplies.{only-line}
use Rattle.triangle_real.proofs.rows.multiply_rows.Goals as goal

pub loop-k-preserved : goal.loop-k-preserved
loop-k-preserved g c =
    let at = c.loop-k.k in
    let n = c.args.sys.b.rows in
    let from = c.min-from.result in
    let here : from + (at - from) ≡ min at n = omega (arith, c.min-from.ensures) in
    let next : min at n + (8 - (at - from)) ≡ min (at + 8) n = omega (arith, c.min-from.ensures, c.requires.room) in
    walk_block _ _ (min at n) (min (at + 8) n) from (at - from) (8 - (at - from)) _ _ here next c.loop-k.invariant c.multiply_block.ensures

pub returns-2 : goal.returns-2
returns-2 g c =
    let at = c.loop-k.k in
    let n = c.args.sys.b.rows in
    let from = c.min-from.result in
    let here : from + (at - from) ≡ min at n = omega (arith, c.min-from.ensures) in
    let next : min at n + (8 - (at - from)) ≡ n = omega (arith, c.min-from.ensures, c.requires.room) in
    only-line (kind g.R.Number.numbers) _ _ _ _ _ _ c.requires.one refl (walk_block _ _ (min at n) n from (at - from) (8 - (at - from)) _ _ here next c.loop-k.invariant c.multiply_block.ensures)

pub returns : goal.returns
returns g c =
    only-line (kind g.R.Number.numbers) _ _ _ _ _ _ c.requires.one refl
    (walk_end _ _ _ _ _ (omega arith) (omega arith) c.loop-k.invariant)
