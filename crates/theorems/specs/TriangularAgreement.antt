-- What a triangular routine can see of its coefficient matrix A (document 01, demand 3): trmv and trmm at every setting of their flags,
-- trsv and trsm under Unit. The theorem is Agreement's `Sees`; here stand what such a call is given and which elements it names.
use Rattle.std.specs.Prelude.{◌&&◌, not, eqb}
use Rattle.number.specs.Kind.{Kind, Holds}
use Rattle.view.specs.declared.Trans.{Trans}
use Rattle.view.specs.declared.UpLo.{UpLo}
use Rattle.view.specs.declared.Diag.{Diag}
use Rattle.view.specs.declared.Diag.TheVariants.{NonUnit, Unit}
use Rattle.view.specs.declared.Side.{Side}
use Rattle.slabs.specs.Elem.{Lent}
use Rattle.slabs.specs.Update.{Mask}
use Rattle.blas.specs.Outcome.{Outcome}
use Rattle.blas.specs.Trmv.{trmv}
use Rattle.blas.specs.Trmm.{trmm}
use Rattle.blas.specs.Trsv.{trsv}
use Rattle.blas.specs.Trsm.{trsm}
use Rattle.theorems.specs.Agreement.{Lendable, Sees, Square, triangle}

-- the named triangle, under Unit without its diagonal
abbrev pub named : UpLo → Diag → Mask
named uplo NonUnit i j = triangle uplo i j
named uplo Unit i j = triangle uplo i j && not (eqb i j)

-- what a triangular routine is given besides A: the scalar, and the single x or B, right-hand side and target, as it is before the call
pub record Single (K : Kind) : Type 0 where
  pub alpha : K.Elem
  pub target : Lent K
  pub alpha-holds : Holds K alpha
  pub target-lendable : Lendable K target

-- with its flags: a routine that takes the scalar (trmm, trsm), and one that takes none (trmv, trsv)
abbrev pub run_scaled : (K : Kind) → (K.Elem → Lent K → Lent K → Outcome K) → Lent K → Single K → Outcome K
run_scaled K f a o = f o.alpha a o.target

abbrev pub run_plain : (K : Kind) → (Lent K → Lent K → Outcome K) → Lent K → Single K → Outcome K
run_plain K f a o = f a o.target

-- each triangular routine that demand 3 speaks of
pub record TrianglesSee (K : Kind) : Type 0 where
  pub trmv-sees : (uplo : UpLo) (trans : Trans) (diag : Diag) → Sees K (Single K) (run_plain K (trmv K uplo trans diag)) Square (named uplo diag)
  pub trmm-sees : (side : Side) (uplo : UpLo) (trans : Trans) (diag : Diag)
      → Sees K (Single K) (run_scaled K (trmm K side uplo trans diag)) Square (named uplo diag)
  pub trsv-sees : (uplo : UpLo) (trans : Trans) → Sees K (Single K) (run_plain K (trsv K uplo trans Unit)) Square (named uplo Unit)
  pub trsm-sees : (side : Side) (uplo : UpLo) (trans : Trans)
      → Sees K (Single K) (run_scaled K (trsm K side uplo trans Unit)) Square (named uplo Unit)
