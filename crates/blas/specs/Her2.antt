-- her2: A ← A + alpha x yᴴ + conj(alpha) y xᴴ, of which the named triangle is written.
-- The Rust decides: there is no beta, and the old element is always read; the two terms are added one after the other, each with its scalar on the
-- first factor; there is no shortcut for alpha 0; the diagonal's imaginary part is computed like any other.
use Rattle.std.specs.Prelude.{ℕ}
use Rattle.number.specs.Kind.{Kind}
use Rattle.slabs.specs.Elem.{Lent}
use Rattle.slabs.specs.Update.{update}
use Rattle.blas.specs.Matrix.{Matrix, vector}
use Rattle.view.specs.Triangle.{in_triangle}
use Rattle.blas.specs.Outcome.{Outcome, outcome}
use Rattle.view.specs.declared.UpLo.{UpLo}
use Rattle.view.specs.Checks.{her2_check}

-- (alpha·xi)·conj(yj) added to element (i, j), then (conj(alpha)·yi)·conj(xj)
abbrev pub her2_change : (K : Kind) → K.Elem → Matrix K → Matrix K → ℕ → ℕ → K.Elem → K.Elem
her2_change K alpha x y i j old =
    K.add
    (K.add old (K.mul (K.mul alpha (x i 0)) (K.conj (y j 0))))
    (K.mul (K.mul (K.conj alpha) (y i 0)) (K.conj (x j 0)))

unfoldable pub her2 : (K : Kind) → UpLo → K.Elem → Lent K → Lent K → Lent K → Outcome K
her2 K uplo alpha x y a =
    outcome K
    (her2_check x.view (K.count x.slab) y.view (K.count y.slab) a.view (K.count a.slab))
    (update K a.view (in_triangle uplo) (her2_change K alpha (vector K x) (vector K y)) a.slab)
    a.slab
