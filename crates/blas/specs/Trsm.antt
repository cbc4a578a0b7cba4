-- trsm: op(A) X = alpha B (Left) or X op(A) = alpha B (Right) solved by substitution, A triangular; B becomes X.
-- The Rust decides: an unknown is worked out as in trsv; alpha multiplies even where it is ONE, Left a right-hand side where it is solved, Right all of B
-- first; Left solves column after column, Right B's columns in solving order, each in every row. Refusal 5 (NonUnit, B not empty, a zero on the diagonal)
-- leaves, Left, the first column's rows that come before the first zero pivot in solving order solved and all else as lent; Right, the columns
-- before that pivot solved and the rest of B times alpha.
use Rattle.std.specs.Prelude.{List}
use Rattle.number.specs.Kind.{Kind}
use Rattle.slabs.specs.Elem.{Lent}
use Rattle.slabs.specs.Update.{everywhere, update}
use Rattle.blas.specs.Matrix.{Matrix, matrix}
use Rattle.blas.specs.Outcome.{Outcome}
use Rattle.blas.specs.Substitution.{attempt, substituted}
use Rattle.view.specs.declared.View.{View}
use Rattle.view.specs.declared.Trans.{Trans}
use Rattle.view.specs.declared.UpLo.{UpLo}
use Rattle.view.specs.declared.Diag.{Diag}
use Rattle.view.specs.declared.Side.{Side}
use Rattle.view.specs.declared.Side.TheVariants.{Left, Right}
use Rattle.view.specs.Checks.{trsm_check}

-- B with every shown element times alpha
abbrev pub times_alpha : (K : Kind) → K.Elem → View → List K.Cell → List K.Cell
times_alpha K alpha v s = update K v everywhere (λ i j x. K.mul alpha x) s

abbrev pub sided_solve : (K : Kind) → Side → UpLo → Trans → Diag → K.Elem → Matrix K → View → List K.Cell → Outcome K
sided_solve K Left uplo trans diag alpha a v s = substituted K Left uplo trans diag (K.mul alpha) a v s
sided_solve K Right uplo trans diag alpha a v s = substituted K Right uplo trans diag (λ b. b) a v (times_alpha K alpha v s)

unfoldable pub trsm : (K : Kind) → Side → UpLo → Trans → Diag → K.Elem → Lent K → Lent K → Outcome K
trsm K side uplo trans diag alpha a b =
    attempt K
    (trsm_check side a.view (K.count a.slab) b.view (K.count b.slab))
    (sided_solve K side uplo trans diag alpha (matrix K a) b.view b.slab)
    b.slab
