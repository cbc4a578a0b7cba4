-- her: A ← A + alpha x xᴴ, of which the named triangle is written. alpha is real.
-- The Rust decides: there is no beta, and the old element is always read; alpha multiplies xi first; there is no shortcut for alpha 0; the diagonal's
-- imaginary part is computed like any other. Document 01 decides: a real factor is the complex number (v, +0).
use Rattle.std.specs.Prelude.{ℕ}
use Rattle.number.specs.Kind.{Kind}
use Rattle.slabs.specs.Elem.{Lent}
use Rattle.slabs.specs.Update.{update}
use Rattle.blas.specs.Matrix.{Matrix, vector}
use Rattle.view.specs.Triangle.{in_triangle}
use Rattle.blas.specs.Outcome.{Outcome, outcome}
use Rattle.view.specs.declared.UpLo.{UpLo}
use Rattle.view.specs.Checks.{her_check}

-- (alpha·xi)·conj(xj) added to element (i, j)
abbrev pub her_change : (K : Kind) → K.Factor → Matrix K → ℕ → ℕ → K.Elem → K.Elem
her_change K alpha x i j old = K.add old (K.mul (K.scale_real alpha (x i 0)) (K.conj (x j 0)))

unfoldable pub her : (K : Kind) → UpLo → K.Factor → Lent K → Lent K → Outcome K
her K uplo alpha x a =
    outcome K
    (her_check x.view (K.count x.slab) a.view (K.count a.slab))
    (update K a.view (in_triangle uplo) (her_change K alpha (vector K x)) a.slab)
    a.slab
