-- Steps one after another: as a loop meets them, in two parts, and a loop in a loop.
use Prim.Native.Nat.{ℕ, zero, suc, ◌+◌, ◌-◌, ◌*◌, ◌≤◌, ◌<◌}
use mathlib.Core.Path.{◌≡◌, refl, ap, sym, subst, ◌∙◌}
use native.Mathlib.Numerals.{add-one}
use native.Mathlib.Omega.{arith}
use Rattle.triangle_plan.specs.Walk.{walk}

module _ {A : Type 0} (f : ℕ → A → A) (s₀ : A) where
  pub walk_start : s₀ ≡ walk 0 f s₀
  unfolding walk
  walk_start = refl

  pub walk-next : (n : ℕ) (s t : A) → s ≡ walk n f s₀ → t ≡ f n s → t ≡ walk (n + 1) f s₀
  unfolding walk
  walk-next n s t h e = rw add-one (e ∙ ap (f n) h)

  -- a loop that is left at i has made n steps
  pub walk_end : (i n : ℕ) (s : A) → i ≤ n → n ≤ i → s ≡ walk i f s₀ → s ≡ walk n f s₀
  walk_end i n s h g e =
      let q : i ≡ n = omega arith in
      subst (λ (k : ℕ). s ≡ walk k f s₀) q e

  pub walk_one : (t : A) → t ≡ walk 1 f s₀ → t ≡ f 0 s₀
  unfolding walk
  walk_one t h = h

  -- a loop over the steps from `from` on, which are steps 0 on
  pub walk_first : (from : ℕ) → s₀ ≡ walk (from - from) f s₀
  unfolding walk
  walk_first from =
      let none : 0 ≡ from - from = omega arith in
      ap (λ (n : ℕ). walk n f s₀) none

  pub walk_on : (from p : ℕ) (s t : A) → from ≤ p → s ≡ walk (p - from) f s₀ → t ≡ f (p - from) s → t ≡ walk (p + 1 - from) f s₀
  walk_on from p s t h e d =
      let next : p - from + 1 ≡ p + 1 - from = omega arith in
      walk-next (p - from) s t e d ∙ ap (λ (n : ℕ). walk n f s₀) next

  -- n steps and k more
  walk-add : (n k : ℕ) → walk k (λ i. f (n + i)) (walk n f s₀) ≡ walk (n + k) f s₀
  unfolding walk
  walk-add n zero =
      let e : n ≡ n + 0 = omega arith in
      ap (λ (m : ℕ). walk m f s₀) e
  walk-add n (suc k) =
      let e : suc (n + k) ≡ n + suc k = omega arith in
      ap (f (n + k)) (walk-add n k) ∙ ap (λ (m : ℕ). walk m f s₀) e

  -- a block of steps: the first of them, after l steps in all, is step `first` of those from `from` on
  pub walk_block : (l n from first more : ℕ) (s t : A) → from + first ≡ l → l + more ≡ n → s ≡ walk l f s₀ → t ≡ walk more (λ i. f (from + (first + i))) s → t ≡ walk n f s₀
  walk_block l n from first more s t d c h e =
      e ∙ (λ j. walk more (λ i. f (same i j)) (h j)) ∙ walk-add l more ∙ ap (λ (k : ℕ). walk k f s₀) c
    where
      same : (i : ℕ) → from + (first + i) ≡ l + i
      same i = omega arith

-- steps that agree below n
pub walk-cong : {A : Type 0} (f g : ℕ → A → A) (n : ℕ) → ((i : ℕ) → i < n → (s : A) → f i s ≡ g i s) → (s : A) → walk n f s ≡ walk n g s
unfolding walk
walk-cong f g zero h s = refl
walk-cong f g (suc n) h s = h n (omega arith) (walk n f s) ∙ ap (g n) (walk-cong f g n (λ i l. h i (omega arith)) s)

-- c times m steps
pub walk-nested : {A : Type 0} (f : ℕ → A → A) (m c : ℕ) (s : A) → walk c (λ o. walk m (λ i. f (o * m + i))) s ≡ walk (c * m) f s
unfolding walk
walk-nested f m zero s =
    let e : 0 ≡ 0 * m = omega arith in
    ap (λ (k : ℕ). walk k f s) e
walk-nested f m (suc c) s =
    let e : c * m + m ≡ suc c * m = omega arith in
    ap (walk m (λ i. f (c * m + i))) (walk-nested f m c s) ∙ walk-add f s (c * m) m ∙ ap (λ (k : ℕ). walk k f s) e

-- ---- steps that pass each other

-- f passes every step
walk-pass : {A : Type 0} (f : A → A) (g : ℕ → A → A) (n : ℕ) → ((i : ℕ) → i < n → (s : A) → f (g i s) ≡ g i (f s)) → (s : A) → f (walk n g s) ≡ walk n g (f s)
unfolding walk
walk-pass f g zero h s = refl
walk-pass f g (suc n) h s = h n (omega arith) (walk n g s) ∙ ap (g n) (walk-pass f g n (λ i l. h i (omega arith)) s)

-- steps of two parts, of which a second part passes every earlier first part
walk_split : {A : Type 0} (f g : ℕ → A → A) (n : ℕ) → ((k j : ℕ) → k < n → j < n → (s : A) → g k (f j s) ≡ f j (g k s)) → (s : A) → walk n (λ k r. f k (g k r)) s ≡ walk n f (walk n g s)
unfolding walk
walk_split f g zero h s = refl
walk_split f g (suc n) h s =
    ap (λ r. f n (g n r)) (walk_split f g n (λ k j p q. h k j (omega arith) (omega arith)) s)
    ∙ ap (f n) (walk-pass (g n) f n (λ j q. h n j (omega arith) (omega arith)) (walk n g s))

walk-still : {A : Type 0} (f : ℕ → ℕ → A → A) (n : ℕ) (s : A) → walk n (λ k. walk 0 (f k)) s ≡ s
unfolding walk
walk-still f zero s = refl
walk-still f (suc n) s = walk-still f n s

-- a loop in a loop, exchanged
pub walk-exchange : {A : Type 0} (f : ℕ → ℕ → A → A) (n c : ℕ)
    → ((k l k' l' : ℕ) → k < n → l < c → k' < n → l' < c → (l ≡ l' → ⊥) → (s : A) → f k l (f k' l' s) ≡ f k' l' (f k l s))
    → (s : A) → walk n (λ k. walk c (f k)) s ≡ walk c (λ l. walk n (λ k. f k l)) s
unfolding walk
walk-exchange f n zero h s = walk-still f n s
walk-exchange f n (suc c) h s =
    walk_split (λ k. f k c) (λ k. walk c (f k)) n
    (λ k j p q r. sym (walk-pass (f j c) (f k) c (λ l g t. h j c k l q (omega arith) p (omega arith) (λ e. omega arith) t) r))
    s
    ∙ ap (walk n (λ k. f k c)) (walk-exchange f n c (λ k l k' l' p q p' q'. h k l k' l' p (omega arith) p' (omega arith)) s)

-- rounds over no lines: as many as one likes
pub walk-rounds : {A : Type 0} (f : ℕ → ℕ → A → A) (n m c : ℕ) → ((l : ℕ) → l < c → n ≡ m) → (s : A) → walk n (λ k. walk c (f k)) s ≡ walk m (λ k. walk c (f k)) s
walk-rounds f n m zero h s = walk-still f n s ∙ sym (walk-still f m s)
walk-rounds f n m (suc c) h s = ap (λ (k : ℕ). walk k (λ i. walk (suc c) (f i)) s) (h c (omega arith))
