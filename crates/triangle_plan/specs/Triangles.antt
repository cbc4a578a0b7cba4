-- A triangular system or product, chosen before its loops: which views show the coefficients and the unknowns.
use Rattle.std.specs.Prelude.{ℕ, Bool, true, false, List, Option, Some, None}
use Rattle.number.specs.Kind.{Kind}
use Rattle.view.specs.declared.View.{View}
use Rattle.view.specs.declared.Trans.{Trans}
use Rattle.view.specs.declared.UpLo.{UpLo}
use Rattle.view.specs.declared.Diag.{Diag}
use Rattle.view.specs.declared.Side.{Side}
use Rattle.view.specs.declared.Side.TheVariants.{Left, Right}
use Rattle.view.specs.Place.{transposed_of, op_view_of, is_conj}
use Rattle.slabs.specs.Run.{elem_conj}
use Rattle.blas.specs.Substitution.{last_first}
use Rattle.blas.specs.Trsm.{times_alpha}
use Rattle.triangle_plan.specs.declared.System.{System}

-- unknown p of line l is element (p, l): Left of B, Right of its transpose
abbrev pub lines_view : Side → View → View
lines_view Left v = v
lines_view Right v = transposed_of v

abbrev pub system_of : Side → UpLo → Trans → Diag → View → View → System
system_of side uplo t diag a b = record {
  side = side;
  diag = diag;
  conjugated = is_conj t;
  last = last_first side uplo t;
  a = lines_view side (op_view_of t a);
  b = lines_view side b;
}

-- what unknown p weighs in the equation of unknown q
abbrev pub coefficient : (K : Kind) → System → List K.Cell → ℕ → ℕ → K.Elem
coefficient K y a q p = elem_conj K y.conjugated a y.a q p

-- times alpha, or as it is
abbrev pub times_if : (K : Kind) → Option K.Elem → K.Elem → K.Elem
times_if K (Some alpha) x = K.mul alpha x
times_if K None x = x

-- the left side multiplies by alpha where it solves, the right side all of B before
abbrev pub is_left : Side → Bool
is_left Left = true
is_left Right = false

abbrev pub scaled_right : (K : Kind) → Side → K.Elem → View → List K.Cell → List K.Cell
scaled_right K Left alpha v s = s
scaled_right K Right alpha v s = times_alpha K alpha v s
