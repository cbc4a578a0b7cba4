-- herk: C ← alpha A Aᴴ + beta C (NoTrans) or alpha Aᴴ A + beta C (ConjTrans), of which the named triangle is scaled and written.
-- alpha and beta are real.
-- The Rust decides: Trans is taken as ConjTrans; beta is judged on the real number; the diagonal's imaginary part is computed like any other; beta,
-- the sum and alpha are as in gemm. Document 01 decides: a real factor is the complex number (v, +0).
use Rattle.number.specs.Kind.{Kind}
use Rattle.number.specs.Scaling.{scaled_real}
use Rattle.slabs.specs.Elem.{Lent}
use Rattle.slabs.specs.Update.{update}
use Rattle.blas.specs.Matrix.{matrix, op, dot, accumulate}
use Rattle.view.specs.Triangle.{in_triangle}
use Rattle.blas.specs.Outcome.{Outcome, outcome}
use Rattle.view.specs.declared.Trans.{Trans}
use Rattle.view.specs.declared.Trans.TheVariants.{NoTrans, Trans as Transposed, ConjTrans}
use Rattle.view.specs.declared.UpLo.{UpLo}
use Rattle.view.specs.Checks.{op_cols, herk_check}

-- how A is read on the left and on the right of the product
abbrev pub herk_left : Trans → Trans
herk_left NoTrans = NoTrans
herk_left Transposed = ConjTrans
herk_left ConjTrans = ConjTrans

abbrev pub herk_right : Trans → Trans
herk_right NoTrans = ConjTrans
herk_right Transposed = NoTrans
herk_right ConjTrans = NoTrans

unfoldable pub herk : (K : Kind) → UpLo → Trans → K.Factor → Lent K → K.Factor → Lent K → Outcome K
herk K uplo trans alpha a beta c =
    outcome K
    (herk_check trans a.view (K.count a.slab) c.view (K.count c.slab))
    (update K c.view (in_triangle uplo)
    (accumulate K (scaled_real K beta) (K.scale_real alpha)
    (dot K (op_cols trans a.view) (op K (herk_left trans) (matrix K a)) (op K (herk_right trans) (matrix K a))))
    c.slab)
    c.slab
