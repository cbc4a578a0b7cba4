-- The stride is the one along which the vector lies (VectorLaws: upright-stride), the rows its length (JudgeLaws: vector-sizes).
use Rattle.view.proofs.Words.{rules, sym, ap, ◌∙◌, pos, w64, to_z-of_z, View, upright-start, upright-stride, vector-sizes}
use Rattle.view.proofs.View.column.Statement.{statement}
use Rattle.view.proofs.View.column.Tie as tie

pub column_spec : {M : Type 1} → statement M
column_spec = tie.close (tie.spec
    (λ c κs. search rules)
    (λ c. let v = c.args.self in
    let u = c.upright-u.result in
    let e = c.upright-u.ensures in
    let stride = to_z-of_z {w = w64} {z = u.rs} (record { sfits = c.struct_told-1.given.1.1.1.0.1 }) ∙ ap (λ (w : View). w.rs) e ∙ upright-stride v in
    let first = ap (λ (w : View). w.start) e ∙ upright-start v in
    let length = sym (vector-sizes v c.args.n c.requires).length in
    λ i. record { start = first i; rows = length i; cols = 1; rs = stride i; cs = pos 0 }))
