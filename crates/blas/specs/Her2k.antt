-- her2k: C ← alpha A Bᴴ + conj(alpha) B Aᴴ + beta C (NoTrans) or alpha Aᴴ B + conj(alpha) Bᴴ A + beta C (ConjTrans), of which the named
-- triangle is scaled and written. beta is real.
-- The Rust decides: Trans is taken as ConjTrans; one sum from ZERO with two additions an index; alpha multiplies inside the sum, and not again outside;
-- beta is judged on the real number and acts as in gemm; the diagonal's imaginary part is computed like any other. Document 01 decides: a real
-- factor is the complex number (v, +0).
use Rattle.std.specs.Prelude.{ℕ}
use Rattle.number.specs.Kind.{Kind}
use Rattle.number.specs.Scaling.{scaled_real}
use Rattle.slabs.specs.Elem.{Lent}
use Rattle.slabs.specs.Update.{update}
use Rattle.blas.specs.Matrix.{Matrix, matrix, op, pair_sum, accumulate}
use Rattle.view.specs.Triangle.{in_triangle}
use Rattle.blas.specs.Outcome.{Outcome, outcome}
use Rattle.blas.specs.Herk.{herk_left, herk_right}
use Rattle.view.specs.declared.Trans.{Trans}
use Rattle.view.specs.declared.UpLo.{UpLo}
use Rattle.view.specs.Checks.{op_cols, her2k_check}

-- element (i, j) of alpha A Bᴴ + conj(alpha) B Aᴴ (NoTrans) or of alpha Aᴴ B + conj(alpha) Bᴴ A, with n terms of each
abbrev pub her2k_product : (K : Kind) → Trans → K.Elem → ℕ → Matrix K → Matrix K → Matrix K
her2k_product K trans alpha n a b i j =
    pair_sum K n
    (λ p. K.mul (K.mul alpha (op K (herk_left trans) a i p)) (op K (herk_right trans) b p j))
    (λ p. K.mul (K.mul (K.conj alpha) (op K (herk_left trans) b i p)) (op K (herk_right trans) a p j))

unfoldable pub her2k : (K : Kind) → UpLo → Trans → K.Elem → Lent K → Lent K → K.Factor → Lent K → Outcome K
her2k K uplo trans alpha a b beta c =
    outcome K
    (her2k_check trans a.view (K.count a.slab) b.view (K.count b.slab) c.view (K.count c.slab))
    (update K c.view (in_triangle uplo)
    (accumulate K (scaled_real K beta) (λ x. x) (her2k_product K trans alpha (op_cols trans a.view) (matrix K a) (matrix K b)))
    c.slab)
    c.slab
