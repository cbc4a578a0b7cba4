-- Ordinary calls pass the quick tests: matrices of order 64 that lie by rows, one after the other on a slab, and vectors.
use mathlib.Core.Path.{◌≡◌, refl}
use mathlib.Core.Bool.{true}
use Prim.Native.Nat.{ℕ}
use lib.IntN.{pos}
use Rattle.view.specs.declared.View.{View}
use Rattle.view.specs.declared.Trans.TheVariants.{NoTrans}
use Rattle.view.specs.declared.Side.TheVariants.{Left}
use Rattle.view.specs.Checks.{gemm_shape, trmm_shape, symm_shape, syrk_shape, syr2k_shape}
use Rattle.call_check.specs.Quick.{few, short, small, square, plain, apart, written, stride_of, reaches, plain_vector, written_vector, quick_gemv, quick_hemv, quick_her, quick_her2, quick_trmv, quick_gemm, quick_symm, quick_syrk, quick_syr2k, quick_trmm}

-- the matrix that begins at a place, and the column
abbrev matrix : ℕ → View
matrix start = record { start = start; rows = 64; cols = 64; rs = pos 64; cs = pos 1 }

abbrev column : ℕ → View
column start = record { start = start; rows = 64; cols = 1; rs = pos 1; cs = pos 1 }

gemv-passed : quick_gemv (matrix 0) 4096 (column 0) 64 (column 64) 128 ≡ true
unfolding quick_gemv few short small plain stride_of reaches plain_vector written_vector
gemv-passed = refl

hemv-passed : quick_hemv (matrix 0) 4096 (column 0) 64 (column 64) 128 ≡ true
unfolding quick_hemv few short square plain stride_of reaches plain_vector written_vector
hemv-passed = refl

her-passed : quick_her (column 0) 64 (matrix 0) 4096 ≡ true
unfolding quick_her few short square plain apart written stride_of reaches plain_vector
her-passed = refl

her2-passed : quick_her2 (column 0) 64 (column 64) 128 (matrix 0) 4096 ≡ true
unfolding quick_her2 few short square plain apart written stride_of reaches plain_vector
her2-passed = refl

trmv-passed : quick_trmv (matrix 0) 4096 (column 0) 64 ≡ true
unfolding quick_trmv few short square plain stride_of reaches plain_vector written_vector
trmv-passed = refl

gemm-passed : quick_gemm (matrix 0) 4096 (matrix 4096) 8192 (matrix 8192) 12288 ≡ true
unfolding quick_gemm few short small plain apart written gemm_shape
gemm-passed = refl

symm-passed : quick_symm Left (matrix 0) 4096 (matrix 4096) 8192 (matrix 8192) 12288 ≡ true
unfolding quick_symm few short small plain apart written symm_shape trmm_shape
symm-passed = refl

syrk-passed : quick_syrk NoTrans (matrix 0) 4096 (matrix 4096) 8192 ≡ true
unfolding quick_syrk few short small plain apart written syrk_shape
syrk-passed = refl

syr2k-passed : quick_syr2k NoTrans (matrix 0) 4096 (matrix 4096) 8192 (matrix 8192) 12288 ≡ true
unfolding quick_syr2k few short small plain apart written syr2k_shape syrk_shape
syr2k-passed = refl

trmm-passed : quick_trmm Left (matrix 0) 4096 (matrix 4096) 8192 ≡ true
unfolding quick_trmm few short small plain apart written trmm_shape
trmm-passed = refl
