-- What the kernels of trmv and trmm have to show at their ways out, over any number kind: every element in place is every element from the
-- slab as lent.
use mathlib.Core.Bool.{Bool, true, false}
use mathlib.Core.List.{List}
use mathlib.Core.Path.{◌≡◌, refl, ap, ◌∙◌}
use Rattle.number.specs.Kind.{Kind}
use Rattle.number.specs.Laws.{SlabLaws}
use Rattle.number.specs.Laws.{Swaps}
use Rattle.view.specs.declared.View.{View}
use Rattle.view.specs.declared.Answer.{Answer}
use Rattle.view.specs.declared.Trans.{Trans}
use Rattle.view.specs.declared.UpLo.{UpLo}
use Rattle.view.specs.declared.Diag.{Diag}
use Rattle.view.specs.declared.Side.{Side}
use Rattle.view.specs.declared.Side.TheVariants.{Left}
use Rattle.view.specs.Judge.{is_done}
use Rattle.view.specs.Checks.{trmv_check, trmm_check}
use Rattle.view.specs.Vector.{column_of}
use Rattle.slabs.specs.Elem.{Lent}
use Rattle.blas.specs.Outcome.{Gives}
use Rattle.blas.specs.Trmv.{trmv}
use Rattle.blas.specs.Trmm.{trmm}
use Rattle.blas.proofs.OutcomeLaws.{gives-work, gives-refusal}
use Rattle.triangle_plan.specs.declared.System.{System}
use Rattle.triangle_plan.specs.Triangles.{system_of}
use Rattle.triangle_plan.specs.Multiply.{multiply_all}
use Rattle.number.specs.Laws.{Commutes}
use Rattle.triangle_plan.proofs.Judged.{vector-runs, matrix-runs, all-inside}
use Rattle.triangle_plan.proofs.Multiplies.{multiplied-all}

module _ (K : Kind) (L : SlabLaws K) (W : Swaps K) (C : Commutes K) (uplo : UpLo) (t : Trans) (diag : Diag) (a x : Lent K) (r : Answer) (flag : Bool)
    (answered : r ≡ trmv_check a.view (K.count a.slab) x.view (K.count x.slab)) (told : flag ≡ is_done r) where
  pub trmv-refused : flag ≡ false → Gives K (trmv K uplo t diag a x) r x.slab
  unfolding trmv
  trmv-refused h = gives-refusal K _ x.slab _ r flag answered told h

  pub trmv-done : flag ≡ true → (v : View) → v ≡ column_of x.view → (y : System) → y ≡ system_of Left uplo t diag a.view v
      → (after : List K.Cell) → after ≡ multiply_all K y a.slab (λ z. z) x.slab → Gives K (trmv K uplo t diag a x) r after
  unfolding trmv
  trmv-done h v columned y made after w =
      let c = column_of x.view in
      gives-work K _ x.slab _ r flag after answered told h
      (w
      ∙ ap (λ (u : System). multiply_all K u a.slab (λ z. z) x.slab) (made ∙ ap (λ (u : View). system_of Left uplo t diag a.view u) columned)
      ∙ multiplied-all K L W C Left uplo t diag a.view a.slab (λ z. z) c x.slab
      (all-inside Left a.view (K.count a.slab) c (K.count x.slab) (vector-runs a.view x.view _ _ r flag answered told h c refl))
      (vector-runs a.view x.view _ _ r flag answered told h c refl).distinct)

module _ (K : Kind) (L : SlabLaws K) (W : Swaps K) (C : Commutes K) (side : Side) (uplo : UpLo) (t : Trans) (diag : Diag) (alpha : K.Elem) (a b : Lent K) (r : Answer) (flag : Bool)
    (answered : r ≡ trmm_check side a.view (K.count a.slab) b.view (K.count b.slab)) (told : flag ≡ is_done r) where
  pub trmm-refused : flag ≡ false → Gives K (trmm K side uplo t diag alpha a b) r b.slab
  unfolding trmm
  trmm-refused h = gives-refusal K _ b.slab _ r flag answered told h

  pub trmm-done : flag ≡ true → (y : System) → y ≡ system_of side uplo t diag a.view b.view → (after : List K.Cell)
      → after ≡ multiply_all K y a.slab (K.mul alpha) b.slab → Gives K (trmm K side uplo t diag alpha a b) r after
  unfolding trmm
  trmm-done h y made after w =
      gives-work K _ b.slab _ r flag after answered told h
      (w
      ∙ ap (λ (u : System). multiply_all K u a.slab (K.mul alpha) b.slab) made
      ∙ multiplied-all K L W C side uplo t diag a.view a.slab (K.mul alpha) b.view b.slab
      (all-inside side a.view (K.count a.slab) b.view (K.count b.slab) (matrix-runs side a.view b.view _ _ r flag answered told h))
      (matrix-runs side a.view b.view _ _ r flag answered told h).distinct)
