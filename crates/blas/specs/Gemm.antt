-- gemm: C ← alpha op(A) op(B) + beta C.
-- The Rust decides: with beta 0 ZERO stands for the old element, whatever it is, and beta 1 keeps it; the sum begins at ZERO, runs by rising index and is multiplied by alpha
-- as a whole, with no shortcut for alpha 0 or an empty sum.
use Rattle.number.specs.Kind.{Kind}
use Rattle.number.specs.Scaling.{scaled}
use Rattle.slabs.specs.Elem.{Lent}
use Rattle.slabs.specs.Update.{everywhere, update}
use Rattle.blas.specs.Matrix.{matrix, op, dot, accumulate}
use Rattle.blas.specs.Outcome.{Outcome, outcome}
use Rattle.view.specs.declared.Trans.{Trans}
use Rattle.view.specs.Checks.{op_cols, gemm_check}

unfoldable pub gemm : (K : Kind) → Trans → Trans → K.Elem → Lent K → Lent K → K.Elem → Lent K → Outcome K
gemm K ta tb alpha a b beta c =
    outcome K
    (gemm_check ta tb a.view (K.count a.slab) b.view (K.count b.slab) c.view (K.count c.slab))
    (update K c.view everywhere
    (accumulate K (scaled K beta) (K.mul alpha) (dot K (op_cols ta a.view) (op K ta (matrix K a)) (op K tb (matrix K b))))
    c.slab)
    c.slab
