-- What the kernels of trsv and trsm have to show at their ways out, over any number kind: refused, a call has its check's answer and has left the
-- target alone; else it has the outcome of its solve.
use mathlib.Core.Bool.{Bool, true, false}
use mathlib.Core.List.{List}
use mathlib.Core.Path.{◌≡◌, refl, sym, subst, ◌∙◌}
use lib.Dec.{T}
use Rattle.std.specs.Prelude.{Option}
use Rattle.std.specs.Bool.{then_some}
use Rattle.number.specs.Kind.{Kind}
use Rattle.view.specs.declared.View.{View}
use Rattle.view.specs.declared.Answer.{Answer}
use Rattle.view.specs.declared.Answer.TheVariants.{Done, TooLarge, OutOfBounds, ShapeMismatch, Overlap, Singular}
use Rattle.view.specs.declared.Trans.{Trans}
use Rattle.view.specs.declared.UpLo.{UpLo}
use Rattle.view.specs.declared.Diag.{Diag}
use Rattle.view.specs.declared.Side.{Side}
use Rattle.view.specs.declared.Side.TheVariants.{Left, Right}
use Rattle.view.specs.Judge.{is_done}
use Rattle.view.specs.Checks.{trsv_check, trsm_check}
use Rattle.view.specs.Vector.{column_of}
use Rattle.slabs.specs.Elem.{Lent}
use Rattle.blas.specs.Matrix.{Matrix, matrix}
use Rattle.blas.specs.Outcome.{Outcome, Gives}
use Rattle.blas.specs.Substitution.{attempt, substituted}
use Rattle.blas.specs.Trsv.{trsv}
use Rattle.blas.specs.Trsm.{sided_solve, trsm}
use Rattle.blas.proofs.OutcomeLaws.{check_done}
use Rattle.triangle_plan.specs.Triangles.{times_if, is_left, scaled_right}

-- ---- a call that is judged first

module _ (K : Kind) (work : Outcome K) (entry : List K.Cell) where
  stays : (a : Answer) → is_done a ≡ false → Gives K (attempt K a work entry) a entry
  stays Done h = absurd (none h)
    where
      none : true ≡ false → ⊥
      none e = subst T e tt
  stays TooLarge h = record { answer = refl; slab = refl }
  stays OutOfBounds h = record { answer = refl; slab = refl }
  stays ShapeMismatch h = record { answer = refl; slab = refl }
  stays Overlap h = record { answer = refl; slab = refl }
  stays Singular h = record { answer = refl; slab = refl }

  refused : (check r : Answer) (flag : Bool) → r ≡ check → flag ≡ is_done r → flag ≡ false → Gives K (attempt K check work entry) r entry
  refused check r flag e d h = subst (λ (a : Answer). Gives K (attempt K a work entry) r entry) e (stays r (sym d ∙ h))

  worked : (check r : Answer) (flag : Bool) → r ≡ check → flag ≡ is_done r → flag ≡ true → (answer : Answer) (after : List K.Cell)
      → Gives K work answer after → Gives K (attempt K check work entry) answer after
  worked check r flag e d h answer after w =
      subst (λ (a : Answer). Gives K (attempt K a work entry) answer after) (sym (check_done check r flag e d h)) w

-- ---- trsv

module _ (K : Kind) (uplo : UpLo) (t : Trans) (diag : Diag) (a x : Lent K) (r : Answer) (flag : Bool)
    (answered : r ≡ trsv_check a.view (K.count a.slab) x.view (K.count x.slab)) (told : flag ≡ is_done r) where
  pub trsv-refused : flag ≡ false → Gives K (trsv K uplo t diag a x) r x.slab
  unfolding trsv
  trsv-refused h = refused K _ x.slab _ r flag answered told h

  pub trsv-done : flag ≡ true → (v : View) → v ≡ column_of x.view → (answer : Answer) (after : List K.Cell)
      → Gives K (substituted K Left uplo t diag (λ b. b) (matrix K a) v x.slab) answer after → Gives K (trsv K uplo t diag a x) answer after
  unfolding trsv
  trsv-done h v columned answer after w =
      worked K _ x.slab _ r flag answered told h answer after
      (subst (λ (y : View). Gives K (substituted K Left uplo t diag (λ b. b) (matrix K a) y x.slab) answer after) columned w)

-- ---- trsm

-- the solve of a side
pub sided-gives : (K : Kind) (side : Side) (uplo : UpLo) (t : Trans) (diag : Diag) (alpha : K.Elem) (a : Matrix K) (v : View) (begin : Option K.Elem) (s s' after : List K.Cell) (answer : Answer)
    → s' ≡ scaled_right K side alpha v s → begin ≡ then_some (is_left side) alpha → Gives K (substituted K side uplo t diag (times_if K begin) a v s') answer after
    → Gives K (sided_solve K side uplo t diag alpha a v s) answer after
sided-gives K Left uplo t diag alpha a v begin s s' after answer scaled told w =
    subst (λ (y : List K.Cell). Gives K (substituted K Left uplo t diag (K.mul alpha) a v y) answer after) scaled
    (subst (λ (b : Option K.Elem). Gives K (substituted K Left uplo t diag (times_if K b) a v s') answer after) told w)
sided-gives K Right uplo t diag alpha a v begin s s' after answer scaled told w =
    subst (λ (y : List K.Cell). Gives K (substituted K Right uplo t diag (λ b. b) a v y) answer after) scaled
    (subst (λ (b : Option K.Elem). Gives K (substituted K Right uplo t diag (times_if K b) a v s') answer after) told w)

module _ (K : Kind) (side : Side) (uplo : UpLo) (t : Trans) (diag : Diag) (alpha : K.Elem) (a b : Lent K) (r : Answer) (flag : Bool)
    (answered : r ≡ trsm_check side a.view (K.count a.slab) b.view (K.count b.slab)) (told : flag ≡ is_done r) where
  pub trsm-refused : flag ≡ false → Gives K (trsm K side uplo t diag alpha a b) r b.slab
  unfolding trsm
  trsm-refused h = refused K _ b.slab _ r flag answered told h

  pub trsm-done : flag ≡ true → (answer : Answer) (after : List K.Cell)
      → Gives K (sided_solve K side uplo t diag alpha (matrix K a) b.view b.slab) answer after → Gives K (trsm K side uplo t diag alpha a b) answer after
  unfolding trsm
  trsm-done h answer after w = worked K _ b.slab _ r flag answered told h answer after w
