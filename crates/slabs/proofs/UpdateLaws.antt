-- The laws of `update`, over any number kind: what each shown element becomes, that all else is as lent, what holds on the way, and
-- when two folds give the same.
use Prim.Native.Nat.{ℕ, zero, suc, ◌+◌, ◌*◌, ◌≤◌, ◌<◌}
use mathlib.Core.Bool.{Bool, true, false, cond, ◌&&◌, true≢false, and-eq-true_iff}
use mathlib.Core.List.{List}
use mathlib.Core.Logic.{◌⊎◌, inl, inr}
use mathlib.Core.Path.{◌≡◌, refl, sym, ap, subst, ◌∙◌}
use native.Mathlib.Decide.{ℕ_discrete}
use native.Mathlib.Numerals.{add-one}
use native.Mathlib.Omega.{arith}
use borrow.Author.Tests.{lt-ltb, le-ltb, eq-eqb, ne_eqb}
use lib.ListN.{length, get_or}
use Rattle.number.specs.Kind.{Kind, Same, Holds}
use Rattle.number.specs.Laws.{SlabLaws, Held, SameSlab}
use Rattle.view.specs.declared.View.{View}
use Rattle.view.specs.Place.{index}
use Rattle.slabs.specs.Elem.{elem}
use Rattle.slabs.specs.Update.{Mask, Change, update_one, update_row, update_rows, update, before, first, prefix}
use Rattle.slabs.specs.Distinct.{Inside, Distinct}

-- ---- the fold in steps, as loops go

module _ (K : Kind) (v : View) (mask : Mask) (u : Change K) (s : List K.Cell) where
  pub row-start : (i : ℕ) → update_row K v mask u i 0 s ≡ s
  unfolding update_row
  row-start i = refl

  pub row_step : (i j : ℕ) → update_row K v mask u i (j + 1) s ≡ update_one K v mask u i j (update_row K v mask u i j s)
  unfolding update_row
  row_step i j = rw add-one

  pub rows_start : update_rows K v mask u 0 s ≡ s
  unfolding update_rows
  rows_start = refl

  pub rows_step : (i : ℕ) → update_rows K v mask u (i + 1) s ≡ update_row K v mask u i v.cols (update_rows K v mask u i s)
  unfolding update_rows
  rows_step i = rw add-one

-- ---- a relation of two slabs that each write keeps holds of two folds

-- induction from a
climb : (P : ℕ → Type 0) (a n : ℕ) → a ≤ n → ((j : ℕ) → a ≤ j → j < n → P j → P (suc j)) → P a → P n
climb P a zero h k p = let e : a ≡ 0 = omega arith in subst P e p
climb P a (suc n) h k p = go (ℕ_discrete a (suc n)) (λ l. k n l (omega arith) (climb P a n l (λ j l m. k j l (omega arith)) p))
  where
    go : Dec (a ≡ suc n) → (a ≤ n → P (suc n)) → P (suc n)
    go (yes e) f = subst P e p
    go (no q) f = f (omega arith)

-- the slab with element (i, j) replaced
abbrev written : (K : Kind) → View → Change K → ℕ → ℕ → List K.Cell → List K.Cell
written K v u i j s = K.put s (index v i j) (u i j (elem K s v i j))

module _ (K : Kind) (v : View) (mask mask' : Mask) (u u' : Change K) (R : List K.Cell → List K.Cell → Type 0) where
  -- both folds admit (i, j) or neither does, and its writes keep the relation
  abbrev pub Keeps : ℕ → ℕ → Type 0
  Keeps i j =
      (mask i j ≡ mask' i j) × (mask i j ≡ true → (s t : List K.Cell) → R s t → R (written K v u i j s) (written K v u' i j t))

  step_both : (i j : ℕ) → Keeps i j → (s t : List K.Cell) → R s t → R (update_one K v mask u i j s) (update_one K v mask' u' i j t)
  unfolding update_one
  step_both i j h s t r = rw (sym h.0) (go (mask i j) refl)
    where
      go : (b : Bool) → mask i j ≡ b → R (cond b (written K v u i j s) s) (cond b (written K v u' i j t) t)
      go true e = h.1 e s t r
      go false e = r

  pub row-both : (i a n : ℕ) → a ≤ n → ((j : ℕ) → a ≤ j → j < n → Keeps i j) → (s t : List K.Cell) →
      R (update_row K v mask u i a s) (update_row K v mask' u' i a t) → R (update_row K v mask u i n s) (update_row K v mask' u' i n t)
  unfolding update_row
  row-both i a n h k s t r = climb (λ n. R (update_row K v mask u i n s) (update_row K v mask' u' i n t)) a n h (λ j p q. step_both i j (k j p q) _ _) r

  pub rows_both : (a m : ℕ) → a ≤ m → ((i : ℕ) → a ≤ i → i < m → (j : ℕ) → j < v.cols → Keeps i j) → (s t : List K.Cell) →
      R (update_rows K v mask u a s) (update_rows K v mask' u' a t) → R (update_rows K v mask u m s) (update_rows K v mask' u' m t)
  unfolding update_rows update_row
  rows_both a m h k s t r =
      climb (λ m. R (update_rows K v mask u m s) (update_rows K v mask' u' m t)) a m h
      (λ i p q. row-both i 0 v.cols (omega arith) (λ j _ l. k i p q j l) _ _)
      r

-- ---- two folds that write alike

module _ (K : Kind) (v : View) (mask : Mask) (u : Change K) where
  -- masks that agree on the shown elements, and changes that agree on those admitted
  pub update-like : (mask' : Mask) (u' : Change K) → ((i j : ℕ) → i < v.rows → j < v.cols → mask i j ≡ mask' i j) →
      ((i j : ℕ) → i < v.rows → j < v.cols → mask i j ≡ true → (x : K.Elem) → u i j x ≡ u' i j x) → (s : List K.Cell) →
      update K v mask u s ≡ update K v mask' u' s
  unfolding update_rows
  update-like mask' u' m e s =
      rows_both K v mask mask' u u' (λ s t. s ≡ t) 0 v.rows (omega arith)
      (λ i _ p j q. (m i j p q, λ a s t h. ap (written K v u i j) h ∙ ap (K.put t (index v i j)) (e i j p q a (elem K t v i j))))
      s
      s
      refl

  pub update-mask : (mask' : Mask) → ((i j : ℕ) → i < v.rows → j < v.cols → mask i j ≡ mask' i j) → (s : List K.Cell) →
      update K v mask u s ≡ update K v mask' u s
  update-mask mask' m s = update-like mask' u m (λ i j _ _ _ x. refl) s

  -- ---- what each write keeps of a slab, a fold keeps

  keep_row : (P : List K.Cell → Type 0) (i a n : ℕ) → a ≤ n →
      ((j : ℕ) → a ≤ j → j < n → mask i j ≡ true → (t : List K.Cell) → P t → P (written K v u i j t)) → (s : List K.Cell) →
      P (update_row K v mask u i a s) → P (update_row K v mask u i n s)
  keep_row P i a n h k s p = row-both K v mask mask u u (λ s t. P s) i a n h (λ j l q. (refl, λ m s t. k j l q m s)) s s p

  keep-rows : (P : List K.Cell → Type 0) (a m : ℕ) → a ≤ m →
      ((i : ℕ) → a ≤ i → i < m → (j : ℕ) → j < v.cols → mask i j ≡ true → (t : List K.Cell) → P t → P (written K v u i j t)) →
      (s : List K.Cell) → P (update_rows K v mask u a s) → P (update_rows K v mask u m s)
  keep-rows P a m h k s p = rows_both K v mask mask u u (λ s t. P s) a m h (λ i l q j c. (refl, λ m s t. k i l q j c m s)) s s p

-- ---- sizes

module _ (K : Kind) (v : View) (mask : Mask) (u : Change K) (s : List K.Cell) (f : List K.Cell → ℕ)
    (h : (t : List K.Cell) (k : ℕ) (x : K.Elem) → f (K.put t k x) ≡ f t) where
  size-row : (i n : ℕ) → f (update_row K v mask u i n s) ≡ f s
  unfolding update_row
  size-row i n = keep_row K v mask u (λ t. f t ≡ f s) i 0 n (omega arith) (λ j _ _ _ t e. h t _ _ ∙ e) s refl

  size-rows : (m : ℕ) → f (update_rows K v mask u m s) ≡ f s
  unfolding update_rows
  size-rows m = keep-rows K v mask u (λ t. f t ≡ f s) 0 m (omega arith) (λ i _ _ j _ _ t e. h t _ _ ∙ e) s refl

module _ (K : Kind) (L : SlabLaws K) (v : View) (mask : Mask) (u : Change K) (s : List K.Cell) where
  pub length-rows : (m : ℕ) → length (update_rows K v mask u m s) ≡ length s
  length-rows = size-rows K v mask u s length L.length-put

  pub length-update : length (update K v mask u s) ≡ length s
  length-update = length-rows v.rows

  pub count-rows : (m : ℕ) → K.count (update_rows K v mask u m s) ≡ K.count s
  count-rows = size-rows K v mask u s K.count L.count-put

  pub count-prefix : (i j : ℕ) → K.count (prefix K v mask u i j s) ≡ K.count s
  count-prefix i j = size-row K v mask u (update_rows K v mask u i s) K.count L.count-put i j ∙ count-rows i

  pub count-update : K.count (update K v mask u s) ≡ K.count s
  count-update = count-rows v.rows

  -- ---- what is in the slab after the fold

  -- an element that no admitted shown element is on is as lent
  pub update_other : (k : ℕ) → ((i j : ℕ) → i < v.rows → j < v.cols → mask i j ≡ true → k ≡ index v i j → ⊥) →
      K.at (update K v mask u s) k ≡ K.at s k
  unfolding update_rows
  update_other k h =
      keep-rows K v mask u (λ t. K.at t k ≡ K.at s k) 0 v.rows (omega arith)
      (λ i _ p j q m t e. L.at-put-other t (index v i j) k _ (h i j p q m) ∙ e)
      s
      refl

  -- a cell that is none of an admitted shown element's is as lent
  pub update-cell : (n : ℕ) (d : K.Cell) →
      ((i j : ℕ) → i < v.rows → j < v.cols → mask i j ≡ true → (n < K.width * index v i j) ⊎ (K.width * index v i j + K.width ≤ n)) →
      get_or (update K v mask u s) n d ≡ get_or s n d
  unfolding update_rows
  update-cell n d h =
      keep-rows K v mask u (λ t. get_or t n d ≡ get_or s n d) 0 v.rows (omega arith)
      (λ i _ p j q m t e. apart (index v i j) t _ (h i j p q m) ∙ e)
      s
      refl
    where
      apart : (k : ℕ) (t : List K.Cell) (x : K.Elem) → (n < K.width * k) ⊎ (K.width * k + K.width ≤ n) → get_or (K.put t k x) n d ≡ get_or t n d
      apart k t x (inl l) = L.cell-put-below t k n x d l
      apart k t x (inr l) = L.cell-put-above t k n x d l

  at-step : (i j : ℕ) (t : List K.Cell) → index v i j < K.count t →
      elem K (update_one K v mask u i j t) v i j ≡ cond (mask i j) (u i j (elem K t v i j)) (elem K t v i j)
  unfolding update_one
  at-step i j t h = go (mask i j)
    where
      go : (b : Bool) → elem K (cond b (written K v u i j t) t) v i j ≡ cond b (u i j (elem K t v i j)) (elem K t v i j)
      go true = L.at-put t (index v i j) _ h
      go false = refl

  -- each shown element becomes `u` of what it was, where it is admitted
  pub update-shown : Inside v (K.count s) → Distinct v → (i j : ℕ) → i < v.rows → j < v.cols →
      elem K (update K v mask u s) v i j ≡ cond (mask i j) (u i j (elem K s v i j)) (elem K s v i j)
  unfolding update_rows update_row
  update-shown w o i j p q =
      keep-rows K v mask u (λ t. elem K t v i j ≡ new) (suc i) v.rows p
      (λ r l l' c m _ t e. apart r c l' m (λ a b. omega arith) t ∙ e)
      s
      (keep_row K v mask u (λ t. elem K t v i j ≡ new) i (suc j) v.cols q
      (λ c l l' _ t e. apart i c p l' (λ a b. omega arith) t ∙ e)
      (update_rows K v mask u i s)
      (at-step i j (prefix K v mask u i j s) (rw (count-prefix i j) (w.below i j p q))
      ∙ ap (λ x. cond (mask i j) (u i j x) x) old))
    where
      new : K.Elem
      new = cond (mask i j) (u i j (elem K s v i j)) (elem K s v i j)

      apart : (r c : ℕ) → r < v.rows → c < v.cols → (i ≡ r → j ≡ c → ⊥) → (t : List K.Cell) → elem K (written K v u r c t) v i j ≡ elem K t v i j
      apart r c p' q' n t =
          L.at-put-other t (index v r c) (index v i j) _
          (λ e. let b = o.only i j r c p q p' q' e in n b.0 b.1)

      old : elem K (prefix K v mask u i j s) v i j ≡ elem K s v i j
      old =
          keep_row K v mask u (λ t. elem K t v i j ≡ elem K s v i j) i 0 j (omega arith)
          (λ c l l' _ t e. apart i c p (omega arith) (λ a b. omega arith) t ∙ e)
          (update_rows K v mask u i s)
          (keep-rows K v mask u (λ t. elem K t v i j ≡ elem K s v i j) 0 i (omega arith)
          (λ r l l' c m _ t e. apart r c (omega arith) m (λ a b. omega arith) t ∙ e)
          s
          refl)

-- ---- the fold on its way

before-row : (r c i j : ℕ) → r < i → before r c i j ≡ true
before-row r c i j h = rw (lt-ltb r i h)

before-col : (c i j : ℕ) → c < j → before i c i j ≡ true
before-col c i j h = rw (le-ltb i i (omega arith), eq-eqb i i refl, lt-ltb c j h)

after-row : (r c i j : ℕ) → i < r → before r c i j ≡ false
after-row r c i j h = rw (le-ltb r i (omega arith), ne_eqb r i (omega arith))

after-col : (c i j : ℕ) → j ≤ c → before i c i j ≡ false
after-col c i j h = rw (le-ltb i i (omega arith), eq-eqb i i refl, le-ltb c j h)

module _ (K : Kind) (v : View) (mask : Mask) (u : Change K) (s : List K.Cell)
    (i j : ℕ) (p : i < v.rows) (q : j ≤ v.cols) where
  -- what is done before (i, j) is the update of the elements before (i, j) only
  pub prefix-is : prefix K v mask u i j s ≡ update K v (first i j mask) u s
  unfolding update_rows update_row
  prefix-is =
      keep-rows K v (first i j mask) u (λ t. prefix K v mask u i j s ≡ t) (suc i) v.rows p
      (λ r l _ c _ a t e. absurd (no r c (after-row r c i j l) a))
      s
      (keep_row K v (first i j mask) u (λ t. prefix K v mask u i j s ≡ t) i j v.cols q
      (λ c l _ a t e. absurd (no i c (after-col c i j l) a))
      (update_rows K v (first i j mask) u i s)
      (row-both K v mask (first i j mask) u u (λ s t. s ≡ t) i 0 j (omega arith)
      (λ c _ l. (like i c (before-col c i j l), λ _ s t. ap (written K v u i c)))
      (update_rows K v mask u i s)
      (update_rows K v (first i j mask) u i s)
      (rows_both K v mask (first i j mask) u u (λ s t. s ≡ t) 0 i (omega arith)
      (λ r _ l c _. (like r c (before-row r c i j l), λ _ s t. ap (written K v u r c)))
      s
      s
      refl)))
    where
      like : (r c : ℕ) → before r c i j ≡ true → mask r c ≡ first i j mask r c
      like r c h = sym (ap (λ b. b && mask r c) h)

      no : (r c : ℕ) → before r c i j ≡ false → first i j mask r c ≡ true → ⊥
      no r c h e = true≢false (sym e ∙ ap (λ b. b && mask r c) h)

cond_both : {A : Type 0} (a b : Bool) (x y : A) → cond (a && b) x y ≡ cond a (cond b x y) y
cond_both true b x y = refl
cond_both false b x y = refl

module _ (K : Kind) (L : SlabLaws K) (v : View) (mask : Mask) (u : Change K) (s : List K.Cell)
    (i j : ℕ) (p : i < v.rows) (q : j ≤ v.cols) where
  -- a shown element before (i, j) holds what the whole update gives it, and any other is as lent
  pub prefix-shown : Inside v (K.count s) → Distinct v → (r c : ℕ) → r < v.rows → c < v.cols →
      elem K (prefix K v mask u i j s) v r c ≡ cond (before r c i j) (elem K (update K v mask u s) v r c) (elem K s v r c)
  prefix-shown w o r c p' q' =
      ap (λ t. elem K t v r c) (prefix-is K v mask u s i j p q)
      ∙ update-shown K L v (first i j mask) u s w o r c p' q'
      ∙ cond_both (before r c i j) (mask r c) _ _
      ∙ ap (λ x. cond (before r c i j) x (elem K s v r c)) (sym (update-shown K L v mask u s w o r c p' q'))

  -- an element that no admitted shown element before (i, j) is on is as lent
  pub prefix-other : (k : ℕ) →
      ((r c : ℕ) → r < v.rows → c < v.cols → before r c i j ≡ true → mask r c ≡ true → k ≡ index v r c → ⊥) →
      K.at (prefix K v mask u i j s) k ≡ K.at s k
  prefix-other k h =
      ap (λ t. K.at t k) (prefix-is K v mask u s i j p q)
      ∙ update_other K L v (first i j mask) u s k
      (λ r c p' q' m. let b = (and-eq-true_iff (before r c i j) (mask r c)).0 m in h r c p' q' b.0 b.1)

  -- a cell that is none of theirs is as lent
  pub prefix-cell : (n : ℕ) (d : K.Cell) →
      ((r c : ℕ) → r < v.rows → c < v.cols → before r c i j ≡ true → mask r c ≡ true → (n < K.width * index v r c) ⊎ (K.width * index v r c + K.width ≤ n)) →
      get_or (prefix K v mask u i j s) n d ≡ get_or s n d
  prefix-cell n d h =
      ap (λ t. get_or t n d) (prefix-is K v mask u s i j p q)
      ∙ update-cell K L v (first i j mask) u s n d
      (λ r c p' q' m. let b = (and-eq-true_iff (before r c i j) (mask r c)).0 m in h r c p' q' b.0 b.1)

-- ---- equal as numbers, and held

-- changes that give the same numbers from the same numbers
module _ (K : Kind) (L : SlabLaws K) (v : View) (mask : Mask) (u u' : Change K)
    (h : (i j : ℕ) → i < v.rows → j < v.cols → mask i j ≡ true → (x y : K.Elem) → Same K x y → Same K (u i j x) (u' i j y)) where
  pub update_same : (s t : List K.Cell) → SameSlab K s t → SameSlab K (update K v mask u s) (update K v mask u' t)
  unfolding update_rows
  update_same s t e =
      rows_both K v mask mask u u' (SameSlab K) 0 v.rows (omega arith)
      (λ i _ p j q. (refl, λ m s t e. L.put_same (index v i j) e (h i j p q m _ _ (L.at_same (index v i j) e))))
      s
      t
      e

  pub update-same-slab : (s : List K.Cell) → SameSlab K (update K v mask u s) (update K v mask u' s)
  update-same-slab s = update_same s s (L.slab-refl s)

module _ (K : Kind) (L : SlabLaws K) (v : View) (mask : Mask) (u : Change K) where
  pub update-held : ((i j : ℕ) → i < v.rows → j < v.cols → mask i j ≡ true → (x : K.Elem) → Holds K x → Holds K (u i j x)) →
      (s : List K.Cell) → Held K s → Held K (update K v mask u s)
  unfolding update_rows
  update-held h s e =
      keep-rows K v mask u (Held K) 0 v.rows (omega arith)
      (λ i _ p j q m t e. L.put_holds t (index v i j) _ e (h i j p q m _ (L.at-holds t (index v i j) e)))
      s
      e
