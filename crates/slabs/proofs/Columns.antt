-- The columns of a row that are written, as a loop from the first of them meets them.
use Prim.Native.Nat.{ℕ, ◌≤◌, ◌<◌}
use mathlib.Core.Bool.{Bool, true, false}
use mathlib.Core.List.{List}
use mathlib.Core.Path.{◌≡◌, refl, sym, ap, ◌∙◌}
use native.Mathlib.Omega.{arith}
use lib.Dec.{leb}
use borrow.Author.Tests.{le-leb, lt-leb, leb-true, leb-false}
use Rattle.number.specs.Kind.{Kind}
use Rattle.view.specs.declared.View.{View}
use Rattle.view.specs.declared.UpLo.{UpLo}
use Rattle.view.specs.declared.UpLo.TheVariants.{Upper, Lower}
use Rattle.view.specs.Place.{index}
use Rattle.view.specs.Triangle.{in_triangle, first_col, end_col}
use Rattle.slabs.specs.Elem.{elem}
use Rattle.slabs.specs.Update.{Mask, Change, Columns, update_row, span}
use Rattle.slabs.proofs.UpdateLaws.{row-both, row-start}
use Rattle.slabs.proofs.LoopLaws.{row-skip}

-- ---- a loop from column a on ends where the written columns do; u' says of each element what u says

module _ (K : Kind) (v : View) (mask : Mask) (u u' : Change K) (i n a e : ℕ) (h : Columns mask i n a e) (same : (j : ℕ) (x : K.Elem) → u i j x ≡ u' i j x) where
  like : (j : ℕ) → j < e → leb a j ≡ mask i j
  like j l = go (leb a j) refl
    where
      go : (b : Bool) → leb a j ≡ b → b ≡ mask i j
      go true t = sym (h.inside j (leb-true a j t) l)
      go false t = sym (h.before j (leb-false a j t))

  span-is : (s : List K.Cell) → span K v u i a e s ≡ update_row K v mask u' i e s
  span-is s =
      row-both K v (λ r k. leb a k) mask u u' (λ p q. p ≡ q) i 0 e (omega arith)
      (λ j l g. (like j g, λ m p q d. ap (λ (t : List K.Cell). K.put t (index v i j) (u i j (elem K t v i j))) d ∙ ap (K.put q (index v i j)) (same j (elem K q v i j))))
      s
      s
      (row-start K v (λ r k. leb a k) u s i ∙ sym (row-start K v mask u' s i))

  pub columns-last : (j : ℕ) (s₀ s : List K.Cell) → n ≡ v.cols → j ≤ e → e ≤ j → s ≡ span K v u i a j s₀ → s ≡ update_row K v mask u' i v.cols s₀
  columns-last j s₀ s en g l p =
      let q : j ≡ e = omega arith in
      p
      ∙ ap (λ (k : ℕ). span K v u i a k s₀) q
      ∙ span-is s₀
      ∙ sym (row-skip K v mask u' i e n h.within h.after s₀)
      ∙ ap (λ (k : ℕ). update_row K v mask u' i k s₀) en

-- ---- the columns in the named triangle

triangle-columns : (uplo : UpLo) (i n : ℕ) → i < n → Columns (in_triangle uplo) i n (first_col uplo i) (end_col uplo i n)
triangle-columns Upper i n h =
    record {
      ordered = omega arith;
      within = omega arith;
      before = λ j l. lt-leb i j l;
      inside = λ j l g. le-leb i j l;
      after = λ j l g. absurd (apart j l g);
    }
  where
    apart : (j : ℕ) → n ≤ j → j < n → ⊥
    apart j l g = omega arith
triangle-columns Lower i n h =
    record {
      ordered = omega arith;
      within = omega arith;
      before = λ j l. absurd (none j l);
      inside = λ j l g. le-leb j i (omega arith);
      after = λ j l g. lt-leb j i (omega arith);
    }
  where
    none : (j : ℕ) → j < 0 → ⊥
    none j l = omega arith

-- a loop over n columns, which are m, from a to before e
pub row-columns : (uplo : UpLo) (i n a e m : ℕ) → i < m → n ≡ m → a ≡ first_col uplo i → e ≡ end_col uplo i n → Columns (in_triangle uplo) i n a e
row-columns uplo i n a e m h en ea ee = rw (ea, ee) (triangle-columns uplo i n (omega arith))
