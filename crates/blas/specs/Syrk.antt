-- syrk: C ← alpha A Aᵀ + beta C (NoTrans) or alpha Aᵀ A + beta C (Trans), of which the named triangle is scaled and written.
-- The Rust decides: ConjTrans is taken as the unconjugated transpose; beta, the sum and alpha are as in gemm.
use Rattle.number.specs.Kind.{Kind}
use Rattle.number.specs.Scaling.{scaled}
use Rattle.slabs.specs.Elem.{Lent}
use Rattle.slabs.specs.Update.{update}
use Rattle.blas.specs.Matrix.{matrix, op, dot, accumulate}
use Rattle.view.specs.Triangle.{in_triangle}
use Rattle.blas.specs.Outcome.{Outcome, outcome}
use Rattle.view.specs.declared.Trans.{Trans}
use Rattle.view.specs.declared.Trans.TheVariants.{NoTrans, Trans as Transposed, ConjTrans}
use Rattle.view.specs.declared.UpLo.{UpLo}
use Rattle.view.specs.Checks.{op_cols, syrk_check}

-- how A is read on the left and on the right of the product
abbrev pub syrk_left : Trans → Trans
syrk_left NoTrans = NoTrans
syrk_left Transposed = Transposed
syrk_left ConjTrans = Transposed

abbrev pub syrk_right : Trans → Trans
syrk_right NoTrans = Transposed
syrk_right Transposed = NoTrans
syrk_right ConjTrans = NoTrans

unfoldable pub syrk : (K : Kind) → UpLo → Trans → K.Elem → Lent K → K.Elem → Lent K → Outcome K
syrk K uplo trans alpha a beta c =
    outcome K
    (syrk_check trans a.view (K.count a.slab) c.view (K.count c.slab))
    (update K c.view (in_triangle uplo)
    (accumulate K (scaled K beta) (K.mul alpha)
    (dot K (op_cols trans a.view) (op K (syrk_left trans) (matrix K a)) (op K (syrk_right trans) (matrix K a))))
    c.slab)
    c.slab
