-- What the products and the triangular routines can see of A, for f64, f32 and complex numbers.
use Prim.Native.Nat.{ℕ, ◌+◌, ◌*◌, ◌/◌, ◌^◌, ◌≤◌, ◌<◌}
use mathlib.Core.Path.{◌≡◌, ap, ◌∙◌}
use native.Mathlib.Omega.{arith}
use lib.Dec.{T}
use lib.Ieee.{Float, Format, binary32, binary64, nan, fits}
use lib.ListN.{length, get_or, replicate, length-replicate, get_or-replicate}
use Rattle.number.specs.Kind.{Kind, zero_float, bytes_of, real, real64, real32, complex}
use Rattle.number.specs.Laws.{Laws}
use Rattle.view.specs.Refusals.{limit}
use Rattle.number.proofs.Instances.{real64-laws, real32-laws, complex-laws}
use Rattle.theorems.specs.Agreement.{ProductsSee}
use Rattle.theorems.specs.TriangularAgreement.{TrianglesSee}
use Rattle.theorems.proofs.AgreeCalls.{Zeros}
use Rattle.theorems.proofs.AgreeProducts.{products-see}
use Rattle.theorems.proofs.AgreeTriangles.{trmv-sees, trmm-sees}
use Rattle.theorems.proofs.AgreeSolves.{trsv-sees, trsm-sees}

-- ---- slabs of zeros

cells-held : (f : Format) → Laws (real f) → (n i : ℕ) (d : Float) → i < length (replicate n zero_float) → T (fits f (get_or (replicate n zero_float) i d))
cells-held f L n i d h = rw (get_or-replicate n i zero_float d (rw (length-replicate n zero_float) at h)) L.zero-holds.holds

few_bytes : (f : Format) (n m : ℕ) → n ≤ limit → m ≡ n → bytes_of f * m < 2 ^ 63
few_bytes binary32 n m h e = omega arith
few_bytes binary64 n m h e = omega arith

real-zeros : (f : Format) → Laws (real f) → Zeros (real f)
real-zeros f L = record {
  slab = λ n. replicate n zero_float;
  count = λ n. length-replicate n zero_float;
  zero = λ n k h. get_or-replicate n k zero_float nan h;
  held = λ n. record { cell = cells-held f L n };
  size = λ n h. few_bytes f n _ h (length-replicate n zero_float);
}

complex-zeros : Zeros complex
complex-zeros = record {
  slab = λ n. replicate (2 * n) zero_float;
  count = λ n. ap (λ (k : ℕ). k / 2) (length-replicate (2 * n) zero_float) ∙ half n;
  zero = λ n k h.
      let re = get_or-replicate (2 * n) (2 * k) zero_float nan (omega arith) in
      let im = get_or-replicate (2 * n) (2 * k + 1) zero_float nan (omega arith) in
      λ i. record { re = re i; im = im i };
  held = λ n. record { cell = cells-held binary64 real64-laws (2 * n) };
  size = λ n h. omega (arith, length-replicate (2 * n) zero_float);
}
  where
    half : (n : ℕ) → (2 * n) / 2 ≡ n
    half n = omega arith

-- ---- the theorems

pub real64-products-see : ProductsSee real64
real64-products-see = products-see real64 real64-laws (real-zeros binary64 real64-laws)

pub real32-products-see : ProductsSee real32
real32-products-see = products-see real32 real32-laws (real-zeros binary32 real32-laws)

pub complex-products-see : ProductsSee complex
complex-products-see = products-see complex complex-laws complex-zeros

triangles-see : (K : Kind) → Laws K → Zeros K → TrianglesSee K
triangles-see K L Z = record {
  trmv-sees = trmv-sees K L Z;
  trmm-sees = λ side uplo trans diag. trmm-sees K L Z uplo trans diag side;
  trsv-sees = trsv-sees K L Z;
  trsm-sees = λ side uplo trans. trsm-sees K L Z uplo trans side;
}

pub real64-triangles-see : TrianglesSee real64
real64-triangles-see = triangles-see real64 real64-laws (real-zeros binary64 real64-laws)

pub real32-triangles-see : TrianglesSee real32
real32-triangles-see = triangles-see real32 real32-laws (real-zeros binary32 real32-laws)

pub complex-triangles-see : TrianglesSee complex
complex-triangles-see = triangles-see complex complex-laws complex-zeros
