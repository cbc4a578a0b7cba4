-- A sum's first and next step, as a loop that counts by one meets them.
use Prim.Native.Nat.{ℕ, ◌+◌, ◌≤◌}
use mathlib.Core.Path.{◌≡◌, refl, ap, sym, subst, ◌∙◌}
use native.Mathlib.Numerals.{add-one}
use native.Mathlib.Omega.{arith}
use Rattle.number.specs.Kind.{Kind}
use Rattle.blas.specs.Matrix.{sum, pair_sum}

module _ (K : Kind) (f : ℕ → K.Elem) where
  pub sum-start : (x : K.Elem) → x ≡ K.zero → x ≡ sum K 0 f
  unfolding sum
  sum-start x e = e

  pub sum-next : (p : ℕ) (acc m next : K.Elem) → acc ≡ sum K p f → m ≡ f p → next ≡ K.add acc m → next ≡ sum K (p + 1) f
  unfolding sum
  sum-next p acc m next e g n = rw add-one (n ∙ (λ t. K.add (e t) (g t)))

  -- a loop that is left at p has added n terms
  pub sum-end : (p n : ℕ) (y : K.Elem) → p ≤ n → n ≤ p → y ≡ sum K p f → y ≡ sum K n f
  sum-end p n y h g e =
      let q : p ≡ n = omega arith in
      subst (λ (m : ℕ). y ≡ sum K m f) q e

-- a sum with two additions for each index
module _ (K : Kind) (f g : ℕ → K.Elem) where
  pub pair-start : pair_sum K 0 f g ≡ K.zero
  unfolding pair_sum
  pair-start = refl

  pub pair_step : (n : ℕ) → pair_sum K (n + 1) f g ≡ K.add (K.add (pair_sum K n f g) (f n)) (g n)
  unfolding pair_sum
  pair_step n = rw add-one

  -- what a loop's turn makes of the sum so far
  pub pair-next : (n : ℕ) (x y : K.Elem) → x ≡ pair_sum K n f g → y ≡ K.add (K.add x (f n)) (g n) → y ≡ pair_sum K (n + 1) f g
  pair-next n x y h e = e ∙ ap (λ z. K.add (K.add z (f n)) (g n)) h ∙ sym (pair_step n)

  pub pair_end : (p n : ℕ) (x : K.Elem) → p ≤ n → n ≤ p → x ≡ pair_sum K p f g → x ≡ pair_sum K n f g
  pair_end p n x h k e =
      let q : p ≡ n = omega arith in
      subst (λ (m : ℕ). x ≡ pair_sum K m f g) q e
