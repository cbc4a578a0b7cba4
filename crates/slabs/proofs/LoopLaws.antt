-- The fold as a loop meets it: a turn more, and the end. A loop's slab is the fold so far of the slab that it began with.
use Prim.Native.Nat.{ℕ, ◌+◌, ◌≤◌, ◌<◌}
use mathlib.Core.Bool.{true, false, true≢false}
use mathlib.Core.List.{List}
use mathlib.Core.Path.{◌≡◌, refl, ap, sym, subst, ◌∙◌}
use native.Mathlib.Omega.{arith}
use lib.Dec.{leb}
use borrow.Author.Tests.{le-leb, lt-leb}
use Rattle.number.specs.Kind.{Kind}
use Rattle.view.specs.declared.View.{View}
use Rattle.view.specs.Place.{index}
use Rattle.slabs.specs.Elem.{elem}
use Rattle.slabs.specs.Update.{Mask, Change, everywhere, update_one, update_row, update_rows, span, span_rows, update, replaced}
use Rattle.slabs.proofs.UpdateLaws.{row-both, rows_both, row-start, row_step, rows_start, rows_step}

-- before the first element of a row, and before the first row, nothing is replaced
pub row-begun : (K : Kind) (v : View) (mask : Mask) (u : Change K) (i : ℕ) (s : List K.Cell) → s ≡ update_row K v mask u i 0 s
row-begun K v mask u i s = sym (row-start K v mask u s i)

pub rows-begun : (K : Kind) (v : View) (mask : Mask) (u : Change K) (s : List K.Cell) → s ≡ update_rows K v mask u 0 s
rows-begun K v mask u s = sym (rows_start K v mask u s)

module _ (K : Kind) (v : View) (mask : Mask) (u : Change K) (s₀ s : List K.Cell) where
  -- element (i, j) after the j elements of row i before it
  pub row_next : (i j : ℕ) (t : List K.Cell) → s ≡ update_row K v mask u i j s₀ → t ≡ update_one K v mask u i j s → t ≡ update_row K v mask u i (j + 1) s₀
  row_next i j t h e = e ∙ ap (update_one K v mask u i j) h ∙ sym (row_step K v mask u s₀ i j)

  pub row_last : (i j n : ℕ) → n ≡ v.cols → j ≤ n → n ≤ j → s ≡ update_row K v mask u i j s₀ → s ≡ update_row K v mask u i v.cols s₀
  row_last i j n e h g p =
      let q : j ≡ v.cols = omega arith in
      subst (λ (k : ℕ). s ≡ update_row K v mask u i k s₀) q p

  -- row i after the i rows before it
  pub rows_next : (i : ℕ) (t : List K.Cell) → s ≡ update_rows K v mask u i s₀ → t ≡ update_row K v mask u i v.cols s → t ≡ update_rows K v mask u (i + 1) s₀
  rows_next i t h e = e ∙ ap (update_row K v mask u i v.cols) h ∙ sym (rows_step K v mask u s₀ i)

  pub rows_last : (i m : ℕ) → m ≡ v.rows → i ≤ m → m ≤ i → s ≡ update_rows K v mask u i s₀ → s ≡ update K v mask u s₀
  rows_last i m e h g p =
      let q : i ≡ v.rows = omega arith in
      subst (λ (k : ℕ). s ≡ update_rows K v mask u k s₀) q p

-- ---- a row of which some elements alone are written

module _ (K : Kind) (v : View) (mask : Mask) (u : Change K) (i : ℕ) where
  -- elements that the mask does not admit change nothing
  pub row-skip : (a n : ℕ) → a ≤ n → ((j : ℕ) → a ≤ j → j < n → mask i j ≡ false) → (s : List K.Cell) → update_row K v mask u i n s ≡ update_row K v mask u i a s
  row-skip a n h f s =
      row-both K v mask mask u u (λ p q. p ≡ update_row K v mask u i a s) i a n h
      (λ j l g. (refl, λ m p q e. absurd (true≢false (sym m ∙ f j l g))))
      s
      s
      refl

  -- an admitted element is replaced
  pub step-put : (j : ℕ) (s : List K.Cell) → mask i j ≡ true → update_one K v mask u i j s ≡ K.put s (index v i j) (u i j (elem K s v i j))
  unfolding update_one
  step-put j s h = rw h

  pub put_next : (j : ℕ) (s₀ s t : List K.Cell) → mask i j ≡ true → s ≡ update_row K v mask u i j s₀ → t ≡ K.put s (index v i j) (u i j (elem K s v i j))
      → t ≡ update_row K v mask u i (j + 1) s₀
  put_next j s₀ s t h p q = row_next K v mask u s₀ s i j t p (q ∙ sym (step-put j s h))

-- from column a on: it begins at a, and goes on by one
module _ (K : Kind) (v : View) (u : Change K) (i : ℕ) where
  pub span-start : (a : ℕ) (s : List K.Cell) → s ≡ span K v u i a a s
  span-start a s =
      sym (row-skip K v (λ r j. leb a j) u i 0 a (omega arith) (λ j l g. lt-leb a j g) s ∙ row-start K v (λ r j. leb a j) u s i)

  pub span-next : (a j : ℕ) (s₀ s t : List K.Cell) → a ≤ j → s ≡ span K v u i a j s₀ → t ≡ K.put s (index v i j) (u i j (elem K s v i j)) → t ≡ span K v u i a (j + 1) s₀
  span-next a j s₀ s t h p q = put_next K v (λ r j. leb a j) u i j s₀ s t (le-leb a j h) p q

  -- a loop that is left at j has gone to n
  pub span-end : (a j n : ℕ) (s₀ s : List K.Cell) → j ≤ n → n ≤ j → s ≡ span K v u i a j s₀ → s ≡ span K v u i a n s₀
  span-end a j n s₀ s h g p =
      let q : j ≡ n = omega arith in
      subst (λ (k : ℕ). s ≡ span K v u i a k s₀) q p

  -- after the columns before a, those from a on
  pub span-after : (mask : Mask) (a n : ℕ) (s₀ s t : List K.Cell) → a ≤ n → ((j : ℕ) → a ≤ j → j < n → mask i j ≡ true)
      → s ≡ update_row K v mask u i a s₀ → t ≡ span K v u i a n s → t ≡ update_row K v mask u i n s₀
  span-after mask a n s₀ s t h m p q =
      q
      ∙ row-both K v (λ r j. leb a j) mask u u (λ x y. x ≡ y) i a n h
      (λ j l g. (le-leb a j l ∙ sym (m j l g), λ o x y e. ap (λ (z : List K.Cell). replaced K v i j (u i j) z) e))
      s
      s₀
      (sym (span-start a s) ∙ p)

  pub span-on : (a j e : ℕ) (s₀ s t : List K.Cell) → a ≤ j → j ≤ e → s ≡ span K v u i a j s₀ → t ≡ span K v u i j e s → t ≡ span K v u i a e s₀
  span-on a j e s₀ s t h l p q = span-after (λ r k. leb a k) j e s₀ s t l (λ k m g. le-leb a k (omega arith)) p q

  -- what becomes of an element may be said in another way
  pub span_same : (u' : Change K) (a n : ℕ) (s : List K.Cell) → a ≤ n → ((j : ℕ) → a ≤ j → j < n → (x : K.Elem) → u i j x ≡ u' i j x)
      → span K v u i a n s ≡ span K v u' i a n s
  span_same u' a n s h e =
      row-both K v (λ r j. leb a j) (λ r j. leb a j) u u' (λ x y. x ≡ y) i a n h
      (λ j l g. (refl, λ o x y d. ap (λ (z : List K.Cell). replaced K v i j (u i j) z) d ∙ ap (K.put y (index v i j)) (e j l g (elem K y v i j))))
      s
      s
      (sym (span-start a s) ∙ span-start' u' a s)
    where
      span-start' : (w : Change K) (b : ℕ) (r : List K.Cell) → r ≡ span K v w i b b r
      span-start' w b r =
          sym (row-skip K v (λ r j. leb b j) w i 0 b (omega arith) (λ j l g. lt-leb b j g) r ∙ row-start K v (λ r j. leb b j) w r i)

-- ---- rows from row a on, of a target of one column

module _ (K : Kind) (v : View) (u : Change K) (one : v.cols ≡ 1) where
  -- a row is its one element
  row_one : (mask : Mask) (i : ℕ) (s t : List K.Cell) → mask i 0 ≡ true → t ≡ replaced K v i 0 (u i 0) s → t ≡ update_row K v mask u i v.cols s
  row_one mask i s t m q = subst (λ (n : ℕ). t ≡ update_row K v mask u i n s) (sym one) (put_next K v mask u i 0 s s t m (sym (row-start K v mask u s i)) q)

  pub column-next : (i : ℕ) (s₀ s t : List K.Cell) → s ≡ update_rows K v everywhere u i s₀ → t ≡ replaced K v i 0 (u i 0) s → t ≡ update_rows K v everywhere u (i + 1) s₀
  column-next i s₀ s t p q = rows_next K v everywhere u s₀ s i t p (row_one everywhere i s t refl q)

  pub rows-span-start : (a : ℕ) (s : List K.Cell) → s ≡ span_rows K v u a a s
  rows-span-start a s =
      sym
      (rows_both K v (λ r j. leb a r) (λ r j. leb a r) u u (λ x y. x ≡ s) 0 a (omega arith)
      (λ i l g j c. (refl, λ m x y e. absurd (true≢false (sym m ∙ lt-leb a i g))))
      s
      s
      (rows_start K v (λ r j. leb a r) u s))

  pub rows-span-next : (a i : ℕ) (s₀ s t : List K.Cell) → a ≤ i → s ≡ span_rows K v u a i s₀ → t ≡ replaced K v i 0 (u i 0) s → t ≡ span_rows K v u a (i + 1) s₀
  rows-span-next a i s₀ s t h p q = rows_next K v (λ r j. leb a r) u s₀ s i t p (row_one (λ r j. leb a r) i s t (le-leb a i h) q)

  pub rows-span-end : (a j n : ℕ) (s₀ s : List K.Cell) → j ≤ n → n ≤ j → s ≡ span_rows K v u a j s₀ → s ≡ span_rows K v u a n s₀
  rows-span-end a j n s₀ s h g p =
      let q : j ≡ n = omega arith in
      subst (λ (k : ℕ). s ≡ span_rows K v u a k s₀) q p

  -- after the rows before a, those from a on, where u' says of each element what u says
  pub rows-span-after : (u' : Change K) (a n : ℕ) (s₀ s t : List K.Cell) → a ≤ n → ((i : ℕ) → a ≤ i → i < n → (x : K.Elem) → u i 0 x ≡ u' i 0 x)
      → s ≡ update_rows K v everywhere u' a s₀ → t ≡ span_rows K v u a n s → t ≡ update_rows K v everywhere u' n s₀
  rows-span-after u' a n s₀ s t h e p q =
      q
      ∙ rows_both K v (λ r j. leb a r) everywhere u u' (λ x y. x ≡ y) a n h
      (λ i l g j c. let z : 0 ≡ j = omega arith in
      subst (λ (k : ℕ). (leb a i ≡ true) × (leb a i ≡ true → (x y : List K.Cell) → x ≡ y → replaced K v i k (u i k) x ≡ replaced K v i k (u' i k) y)) z
      (le-leb a i l, λ m x y d. ap (λ (w : List K.Cell). replaced K v i 0 (u i 0) w) d ∙ ap (K.put y (index v i 0)) (e i l g (elem K y v i 0))))
      s
      s₀
      (sym (rows-span-start a s) ∙ p)
