-- Each loop is the fold so far (Update: update_row, update_rows).
use Rattle.std.proofs.Common.{◌≡◌}
use Rattle.number.specs.Kind.{kind}
use Rattle.slabs.specs.Update.{everywhere, update_row, update_rows}
use Rattle.triangle_lines.proofs.trsm.scale.Given as goal

abbrev pub invariant-loop-i : goal.invariant-loop-i
invariant-loop-i g l =
    let K = kind g.N.Number.numbers in
    l.b ≡ update_rows K l.vb everywhere (λ i j x. K.mul l.alpha x) l.i l.fn.b

abbrev pub invariant-loop-j : goal.invariant-loop-j
invariant-loop-j g l =
    let K = kind g.N.Number.numbers in
    l.b ≡ update_row K l.vb everywhere (λ i j x. K.mul l.alpha x) l.i l.j (update_rows K l.vb everywhere (λ i j x. K.mul l.alpha x) l.i l.fn.b)
