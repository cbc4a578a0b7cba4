-- trsv: op(A) x = b solved by substitution, A triangular; x holds b and becomes the solution.
-- The Rust decides: there is no alpha; an unknown begins as its right-hand side, loses op(A)'s element times solved unknown by rising index, and is divided by
-- the pivot; Unit reads no diagonal and does not divide; a pivot is tested in its turn. Refusal 5 (NonUnit, x not empty, a zero on the
-- diagonal) leaves the unknowns that come before the first zero pivot in solving order solved, and all else as lent.
use Rattle.number.specs.Kind.{Kind}
use Rattle.slabs.specs.Elem.{Lent}
use Rattle.blas.specs.Matrix.{matrix}
use Rattle.blas.specs.Outcome.{Outcome}
use Rattle.blas.specs.Substitution.{attempt, substituted}
use Rattle.view.specs.declared.Trans.{Trans}
use Rattle.view.specs.declared.UpLo.{UpLo}
use Rattle.view.specs.declared.Diag.{Diag}
use Rattle.view.specs.declared.Side.TheVariants.{Left}
use Rattle.view.specs.Checks.{trsv_check}
use Rattle.view.specs.Vector.{column_of}

unfoldable pub trsv : (K : Kind) → UpLo → Trans → Diag → Lent K → Lent K → Outcome K
trsv K uplo trans diag a x =
    attempt K
    (trsv_check a.view (K.count a.slab) x.view (K.count x.slab))
    (substituted K Left uplo trans diag (λ b. b) (matrix K a) (column_of x.view) x.slab)
    x.slab
