-- syr2k: C ← alpha A Bᵀ + alpha B Aᵀ + beta C (NoTrans) or alpha Aᵀ B + alpha Bᵀ A + beta C (Trans), of which the named triangle is scaled and
-- written.
-- The Rust decides: ConjTrans is taken as the unconjugated transpose; one sum from ZERO with two additions an index, which alpha multiplies as a whole;
-- beta and alpha are as in gemm.
use Rattle.std.specs.Prelude.{ℕ}
use Rattle.number.specs.Kind.{Kind}
use Rattle.number.specs.Scaling.{scaled}
use Rattle.slabs.specs.Elem.{Lent}
use Rattle.slabs.specs.Update.{update}
use Rattle.blas.specs.Matrix.{Matrix, matrix, op, pair_sum, accumulate}
use Rattle.view.specs.Triangle.{in_triangle}
use Rattle.blas.specs.Outcome.{Outcome, outcome}
use Rattle.blas.specs.Syrk.{syrk_left, syrk_right}
use Rattle.view.specs.declared.Trans.{Trans}
use Rattle.view.specs.declared.UpLo.{UpLo}
use Rattle.view.specs.Checks.{op_cols, syr2k_check}

-- element (i, j) of A Bᵀ + B Aᵀ (NoTrans) or of Aᵀ B + Bᵀ A, with n terms of each
abbrev pub syr2k_product : (K : Kind) → Trans → ℕ → Matrix K → Matrix K → Matrix K
syr2k_product K trans n a b i j =
    pair_sum K n
    (λ p. K.mul (op K (syrk_left trans) a i p) (op K (syrk_right trans) b p j))
    (λ p. K.mul (op K (syrk_left trans) b i p) (op K (syrk_right trans) a p j))

unfoldable pub syr2k : (K : Kind) → UpLo → Trans → K.Elem → Lent K → Lent K → K.Elem → Lent K → Outcome K
syr2k K uplo trans alpha a b beta c =
    outcome K
    (syr2k_check trans a.view (K.count a.slab) b.view (K.count b.slab) c.view (K.count c.slab))
    (update K c.view (in_triangle uplo)
    (accumulate K (scaled K beta) (K.mul alpha) (syr2k_product K trans (op_cols trans a.view) (matrix K a) (matrix K b)))
    c.slab)
    c.slab
