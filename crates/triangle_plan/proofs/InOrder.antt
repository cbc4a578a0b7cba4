-- Elements replaced in another order than by rows: one element more, and the order in which the triangular product goes.
use Prim.Native.Nat.{ℕ, suc, ◌<◌}
use mathlib.Core.Bool.{true, false}
use mathlib.Core.List.{List}
use mathlib.Core.Path.{◌≡◌, refl, ap, ◌∙◌}
use native.Mathlib.Omega.{arith}
use Rattle.number.specs.Kind.{Kind}
use Rattle.number.specs.Laws.{Swaps}
use Rattle.view.specs.declared.View.{View}
use Rattle.view.specs.Place.{index}
use Rattle.slabs.specs.Update.{Mask, update_one, update_row, update_rows, update}
use Rattle.slabs.specs.Distinct.{Distinct}
use Rattle.slabs.proofs.UpdateLaws.{Keeps, row-both, rows_both}

-- ---- one element more than a mask admits

module _ (K : Kind) (W : Swaps K) (v : View) (mask mask' : Mask) (g : ℕ → ℕ → K.Elem) (i j : ℕ) (p : i < v.rows) (q : j < v.cols)
    (o : Distinct v) (new : mask' i j ≡ true) (old : mask i j ≡ false)
    (like : (r c : ℕ) → r < v.rows → c < v.cols → (r ≡ i → c ≡ j → ⊥) → mask' r c ≡ mask r c) where
  abbrev Equal : List K.Cell → List K.Cell → Type 0
  Equal s t = s ≡ t

  abbrev More : List K.Cell → List K.Cell → Type 0
  More s t = s ≡ K.put t (index v i j) (g i j)

  equal : (r c : ℕ) → r < v.rows → c < v.cols → (r ≡ i → c ≡ j → ⊥) → Keeps K v mask' mask (λ r c x. g r c) (λ r c x. g r c) Equal r c
  equal r c h l n = (like r c h l n, λ _ s t e. ap (λ (w : List K.Cell). K.put w (index v r c) (g r c)) e)

  more : (r c : ℕ) → r < v.rows → c < v.cols → (r ≡ i → c ≡ j → ⊥) → Keeps K v mask' mask (λ r c x. g r c) (λ r c x. g r c) More r c
  more r c h l n = (
    like r c h l n,
    λ _ s t e.
        ap (λ (w : List K.Cell). K.put w (index v r c) (g r c)) e
        ∙ W.swap t (index v i j) (index v r c) (g i j) (g r c) (λ d. let b = o.only r c i j h l p q d in n b.0 b.1),
  )

  there : (s t : List K.Cell) → s ≡ t → update_one K v mask' (λ r c x. g r c) i j s ≡ K.put (update_one K v mask (λ r c x. g r c) i j t) (index v i j) (g i j)
  unfolding update_one
  there s t e = rw (new, old) (ap (λ (w : List K.Cell). K.put w (index v i j) (g i j)) e)

  pub one_more : (s : List K.Cell) → update K v mask' (λ r c x. g r c) s ≡ K.put (update K v mask (λ r c x. g r c) s) (index v i j) (g i j)
  unfolding update_row update_rows
  one_more s =
      rows_both K v mask' mask (λ r c x. g r c) (λ r c x. g r c) More (suc i) v.rows p
      (λ r l h c k. more r c h k (λ a b. omega arith))
      s
      s
      (row-both K v mask' mask (λ r c x. g r c) (λ r c x. g r c) More i (suc j) v.cols q
      (λ c l h. more i c p h (λ a b. omega arith))
      (update_rows K v mask' (λ r c x. g r c) i s)
      (update_rows K v mask (λ r c x. g r c) i s)
      (there _ _
      (row-both K v mask' mask (λ r c x. g r c) (λ r c x. g r c) Equal i 0 j (omega arith)
      (λ c l h. equal i c p (omega arith) (λ a b. omega arith))
      (update_rows K v mask' (λ r c x. g r c) i s)
      (update_rows K v mask (λ r c x. g r c) i s)
      (rows_both K v mask' mask (λ r c x. g r c) (λ r c x. g r c) Equal 0 i (omega arith)
      (λ r l h c k. equal r c (omega arith) k (λ a b. omega arith))
      s
      s
      refl))))
