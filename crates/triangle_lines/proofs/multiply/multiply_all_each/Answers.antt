-- Element after element, each in every line, is line after line (Lines: element-after-element).
use Rattle.std.proofs.Common.{refl, arith}
use Rattle.number.specs.Kind.{kind}
use Rattle.triangle_plan.proofs.Lines.{element-after-element}
use Rattle.triangle_plan.proofs.WalkLaws.{walk_end}
use Rattle.triangle_lines.proofs.multiply.multiply_all_each.Goals as goal

pub returns : goal.returns
returns g c =
    let p = c.args in
    let m = g.met.N.Number.laws in
    element-after-element (kind g.N.Number.numbers) m.laws.slab p.sys p.a.now _ c.requires.ready.apart m.swaps _ _ _ refl
    (walk_end _ _ _ _ _ c.loop-k.auto.k-end (omega arith) c.loop-k.invariant)
