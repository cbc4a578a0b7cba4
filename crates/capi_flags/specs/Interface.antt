-- A call through the C interface: flags and views come as numbers, and the answer's number goes back.
use Rattle.std.specs.Prelude.{ℕ, Bool, true, false, ◌&&◌, List, [], ◌∷◌, ◌≡◌, Float, Result, MatchResult}
use Rattle.number.specs.Kind.{Kind}
use Rattle.number.specs.declared.Complex.{Complex}
use Rattle.view.specs.declared.Answer.{Answer}
use Rattle.view.specs.declared.UnknownFlag.{UnknownFlag}
use Rattle.view.specs.Flags.{trans_in_range, trans_of, up_lo_in_range, up_lo_of, side_in_range, side_of, diag_in_range, diag_of}
use Rattle.view.specs.Judge.{arg, judge}
use Rattle.slabs.specs.Elem.{Lent}
use Rattle.blas.specs.Outcome.{Outcome, outcome}
use Rattle.blas.specs.Gemv.{gemv}
use Rattle.blas.specs.Hemv.{hemv}
use Rattle.blas.specs.Gemm.{gemm}
use Rattle.blas.specs.Symm.{symm}
use Rattle.blas.specs.Hemm.{hemm}
use Rattle.blas.specs.Syrk.{syrk}
use Rattle.blas.specs.Herk.{herk}
use Rattle.blas.specs.Her.{her}
use Rattle.blas.specs.Her2.{her2}
use Rattle.blas.specs.Syr2k.{syr2k}
use Rattle.blas.specs.Her2k.{her2k}
use Rattle.blas.specs.Trmv.{trmv}
use Rattle.blas.specs.Trsv.{trsv}
use Rattle.blas.specs.Trmm.{trmm}
use Rattle.blas.specs.Trsm.{trsm}

-- ---- flags

-- where every flag is in its range the flags, else an error
abbrev pub Decoded : {F : Type 0} → Bool → F → Result F UnknownFlag → Type 0
Decoded valid flags r = MatchResult r (λ f. (valid ≡ true) × (f ≡ flags)) (λ e. valid ≡ false)

-- ---- scalars: a complex number comes as its two parts

abbrev pub complex_of : Float → Float → Complex
complex_of re im = record { re = re; im = im }

-- ---- outcomes

-- the answer's number, and the target's slab
pub record Returns (K : Kind) (o : Outcome K) (n : ℕ) (after : List K.Cell) : Type 0 where
  pub answer : n ≡ o.answer
  pub slab : after ≡ o.slab

-- With every flag in its range a call has the routine's outcome. A flag out of range is a shape mismatch, judged after the refusals before it.
unfoldable pub flagged : (K : Kind) → Bool → Outcome K → Answer → List K.Cell → Outcome K
flagged K true o refusal entry = o
flagged K false o refusal entry = outcome K refusal entry entry

abbrev pub misfit2 : (K : Kind) → Lent K → Lent K → Answer
misfit2 K a c = judge (arg a.view (K.count a.slab) ∷ arg c.view (K.count c.slab) ∷ []) false c.view

abbrev pub misfit3 : (K : Kind) → Lent K → Lent K → Lent K → Answer
misfit3 K a b c =
    judge (arg a.view (K.count a.slab) ∷ arg b.view (K.count b.slab) ∷ arg c.view (K.count c.slab) ∷ []) false c.view

-- ---- the routines

abbrev pub gemv_c : (K : Kind) → ℕ → K.Elem → Lent K → Lent K → K.Elem → Lent K → Outcome K
gemv_c K trans alpha a x beta y = flagged K (trans_in_range trans) (gemv K (trans_of trans) alpha a x beta y) (misfit3 K a x y) y.slab

abbrev pub hemv_c : (K : Kind) → ℕ → K.Elem → Lent K → Lent K → K.Elem → Lent K → Outcome K
hemv_c K uplo alpha a x beta y = flagged K (up_lo_in_range uplo) (hemv K (up_lo_of uplo) alpha a x beta y) (misfit3 K a x y) y.slab

abbrev pub gemm_c : (K : Kind) → ℕ → ℕ → K.Elem → Lent K → Lent K → K.Elem → Lent K → Outcome K
gemm_c K ta tb alpha a b beta c =
    flagged K (trans_in_range ta && trans_in_range tb) (gemm K (trans_of ta) (trans_of tb) alpha a b beta c) (misfit3 K a b c) c.slab

abbrev pub symm_c : (K : Kind) → ℕ → ℕ → K.Elem → Lent K → Lent K → K.Elem → Lent K → Outcome K
symm_c K side uplo alpha a b beta c =
    flagged K (side_in_range side && up_lo_in_range uplo) (symm K (side_of side) (up_lo_of uplo) alpha a b beta c) (misfit3 K a b c) c.slab

abbrev pub hemm_c : (K : Kind) → ℕ → ℕ → K.Elem → Lent K → Lent K → K.Elem → Lent K → Outcome K
hemm_c K side uplo alpha a b beta c =
    flagged K (side_in_range side && up_lo_in_range uplo) (hemm K (side_of side) (up_lo_of uplo) alpha a b beta c) (misfit3 K a b c) c.slab

abbrev pub syrk_c : (K : Kind) → ℕ → ℕ → K.Elem → Lent K → K.Elem → Lent K → Outcome K
syrk_c K uplo trans alpha a beta c =
    flagged K (up_lo_in_range uplo && trans_in_range trans) (syrk K (up_lo_of uplo) (trans_of trans) alpha a beta c) (misfit2 K a c) c.slab

abbrev pub herk_c : (K : Kind) → ℕ → ℕ → K.Factor → Lent K → K.Factor → Lent K → Outcome K
herk_c K uplo trans alpha a beta c =
    flagged K (up_lo_in_range uplo && trans_in_range trans) (herk K (up_lo_of uplo) (trans_of trans) alpha a beta c) (misfit2 K a c) c.slab

abbrev pub her_c : (K : Kind) → ℕ → K.Factor → Lent K → Lent K → Outcome K
her_c K uplo alpha x a = flagged K (up_lo_in_range uplo) (her K (up_lo_of uplo) alpha x a) (misfit2 K x a) a.slab

abbrev pub her2_c : (K : Kind) → ℕ → K.Elem → Lent K → Lent K → Lent K → Outcome K
her2_c K uplo alpha x y a = flagged K (up_lo_in_range uplo) (her2 K (up_lo_of uplo) alpha x y a) (misfit3 K x y a) a.slab

abbrev pub syr2k_c : (K : Kind) → ℕ → ℕ → K.Elem → Lent K → Lent K → K.Elem → Lent K → Outcome K
syr2k_c K uplo trans alpha a b beta c =
    flagged K (up_lo_in_range uplo && trans_in_range trans) (syr2k K (up_lo_of uplo) (trans_of trans) alpha a b beta c) (misfit3 K a b c) c.slab

abbrev pub her2k_c : (K : Kind) → ℕ → ℕ → K.Elem → Lent K → Lent K → K.Factor → Lent K → Outcome K
her2k_c K uplo trans alpha a b beta c =
    flagged K (up_lo_in_range uplo && trans_in_range trans) (her2k K (up_lo_of uplo) (trans_of trans) alpha a b beta c) (misfit3 K a b c) c.slab

abbrev pub trmv_c : (K : Kind) → ℕ → ℕ → ℕ → Lent K → Lent K → Outcome K
trmv_c K uplo trans diag a x =
    flagged K (up_lo_in_range uplo && trans_in_range trans && diag_in_range diag) (trmv K (up_lo_of uplo) (trans_of trans) (diag_of diag) a x) (misfit2 K a x) x.slab

abbrev pub trsv_c : (K : Kind) → ℕ → ℕ → ℕ → Lent K → Lent K → Outcome K
trsv_c K uplo trans diag a x =
    flagged K (up_lo_in_range uplo && trans_in_range trans && diag_in_range diag) (trsv K (up_lo_of uplo) (trans_of trans) (diag_of diag) a x) (misfit2 K a x) x.slab

abbrev pub trmm_c : (K : Kind) → ℕ → ℕ → ℕ → ℕ → K.Elem → Lent K → Lent K → Outcome K
trmm_c K side uplo trans diag alpha a b =
    flagged K (side_in_range side && (up_lo_in_range uplo && trans_in_range trans && diag_in_range diag)) (trmm K (side_of side) (up_lo_of uplo) (trans_of trans) (diag_of diag) alpha a b) (misfit2 K a b) b.slab

abbrev pub trsm_c : (K : Kind) → ℕ → ℕ → ℕ → ℕ → K.Elem → Lent K → Lent K → Outcome K
trsm_c K side uplo trans diag alpha a b =
    flagged K (side_in_range side && (up_lo_in_range uplo && trans_in_range trans && diag_in_range diag)) (trsm K (side_of side) (up_lo_of uplo) (trans_of trans) (diag_of diag) alpha a b) (misfit2 K a b) b.slab
