-- Points of the triangular routines that are easy to read otherwise, each on the smallest call, by computing the definitions.
use mathlib.Core.List.{[], ◌∷◌}
use mathlib.Core.Path.{◌≡◌, refl}
use lib.Ieee.{add, sub, mul, div, neg, eq, of_int}
use Rattle.number.specs.Kind.{real64, complex}
use Rattle.theorems.proofs.Words.{NoTrans, ConjTrans, Upper, NonUnit, Unit, Left}
use Rattle.view.specs.Any.{any}
use Rattle.view.specs.Place.{place, index}
use Rattle.view.specs.Refusals.{too_large, out_of_bounds, overlaps, is_vector}
use Rattle.view.specs.Vector.{vec_stride}
use Rattle.view.specs.Judge.{judge}
use Rattle.view.specs.Checks.{vector_of, trmv_shape, trmm_shape}
use Rattle.slabs.specs.Update.{update_one, update_row, update_rows}
use Rattle.blas.specs.Matrix.{sum_over}
use Rattle.blas.specs.Substitution.{first_at, minus_terms, solve_one, solved, substituted}
use Rattle.blas.specs.Trmm.{trmm}
use Rattle.blas.specs.Trsv.{trsv}
use Rattle.blas.specs.Trsm.{trsm}
use Rattle.theorems.specs.Table.{f, minus, by_rows, single, outcome_of}

-- the pivot is conjugated under ConjTrans: 1 divided by −i is i
pub conjugate-pivot : trsv complex Upper ConjTrans NonUnit (single (f 0) (f 1)) (single (f 1) (f 0)) ≡ outcome_of complex 0 (f 0 ∷ f 1 ∷ [])
unfolding trsv trmv_shape vector_of is_vector vec_stride judge too_large out_of_bounds overlaps any place index first_at minus_terms solve_one solved substituted add sub mul div eq of_int
conjugate-pivot = refl

-- trsm multiplies by alpha even where it is ONE, and trsv does not
pub alpha-one : trsm complex Left Upper NoTrans Unit complex.one (single (f 1) (f 0)) (single (f 0) (minus 0)) ≡ outcome_of complex 0 (f 0 ∷ f 0 ∷ [])
unfolding trsm trmm_shape judge too_large out_of_bounds overlaps any place index first_at minus_terms solve_one solved substituted add sub mul eq of_int
alpha-one = refl

pub no-alpha : trsv complex Upper NoTrans Unit (single (f 1) (f 0)) (single (f 0) (minus 0)) ≡ outcome_of complex 0 (f 0 ∷ minus 0 ∷ [])
unfolding trsv trmv_shape vector_of is_vector vec_stride judge too_large out_of_bounds overlaps any place index first_at minus_terms solve_one solved substituted add sub mul eq of_int
no-alpha = refl

-- alpha times the sum is written, not added to ZERO: its sign stays
pub product-sign : trmm real64 Left Upper NoTrans NonUnit (minus 1) (by_rows 1 1 (minus 1 ∷ [])) (by_rows 1 1 (f 0 ∷ [])) ≡ outcome_of real64 0 (minus 0 ∷ [])
unfolding trmm trmm_shape judge too_large out_of_bounds overlaps any place index update_rows update_row update_one sum_over add mul neg of_int
product-sign = refl
