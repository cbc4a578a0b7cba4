-- The table of worked examples holds: each row by computing the definitions.
use mathlib.Core.Path.{refl}
use lib.Ieee.{add, sub, mul, div, neg, eq, of_int}
use Rattle.view.specs.Any.{any}
use Rattle.view.specs.Place.{place, index}
use Rattle.view.specs.Refusals.{too_large, out_of_bounds, overlaps, is_vector}
use Rattle.view.specs.Vector.{vec_stride}
use Rattle.view.specs.Judge.{judge}
use Rattle.view.specs.Checks.{vector_of, gemv_shape, trmv_shape, gemm_shape, trmm_shape, symm_shape, syrk_shape}
use Rattle.slabs.specs.Update.{update_one, update_row, update_rows}
use Rattle.blas.specs.Matrix.{sum, sum_over}
use Rattle.blas.specs.Gemv.{gemv}
use Rattle.blas.specs.Gemm.{gemm}
use Rattle.blas.specs.Symm.{symm}
use Rattle.blas.specs.Syrk.{syrk}
use Rattle.blas.specs.Her.{her}
use Rattle.blas.specs.Substitution.{first_at, minus_terms, solve_one, solved, substituted}
use Rattle.blas.specs.Trmv.{trmv}
use Rattle.blas.specs.Trsv.{trsv}
use Rattle.blas.specs.Trsm.{trsm}
use Rattle.theorems.specs.Table.{WorkedExamples}

pub worked-examples : WorkedExamples
unfolding gemv gemm symm syrk her trmv trsv trsm gemv_shape gemm_shape symm_shape syrk_shape trmv_shape trmm_shape vector_of is_vector vec_stride judge too_large out_of_bounds overlaps any place index update_rows update_row update_one sum sum_over first_at minus_terms solve_one solved substituted add sub mul div neg eq of_int
worked-examples =
    record {
      w1-read = refl;
      w1 = refl;
      w2-shared = refl;
      w2 = refl;
      w2-passes = refl;
      w3 = refl;
      w4 = refl;
      w5 = refl;
      w6 = refl;
      w7 = refl;
      w8 = refl;
      w9 = refl;
      w10 = refl;
      w11 = refl;
      w12 = λ uplo trans alpha. refl;
      w13 = refl;
      w14 = refl;
    }
