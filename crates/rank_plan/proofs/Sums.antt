-- Sums of pairs of products side by side, as a loop meets them, and the columns of a row that are settled from them.
use Prim.Native.Nat.{ℕ, ◌+◌, ◌-◌, ◌≤◌, ◌<◌}
use mathlib.Core.List.{List}
use mathlib.Core.Path.{◌≡◌, sym, ap, ◌∙◌}
use native.Mathlib.Omega.{arith}
use lib.ListN.{get_or}
use Rattle.std.proofs.lemmas.List.{get_or_default}
use Rattle.number.specs.Kind.{Kind}
use Rattle.view.specs.declared.View.{View}
use Rattle.slabs.specs.Eight.{lane, Lanes}
use Rattle.slabs.specs.Update.{replaced}
use Rattle.blas.specs.Matrix.{pair_sum}
use Rattle.blas.proofs.SumLaws.{pair-start, pair-next}

-- ---- w sums

module _ {w : ℕ} (K : Kind) where
  -- sum t is of the terms f t and g t; zeros are the sums of no terms
  module _ (f g : ℕ → ℕ → K.Elem) where
    pub pairs_start : (s : List K.Elem) → Lanes K w s (λ t. K.zero) → Lanes K w s (λ t. pair_sum K 0 (f t) (g t))
    pairs_start s none = record { count = none.count; sum = λ t l. none.sum t l ∙ sym (pair-start K (f t) (g t)) }

    pub pairs_next : (p : ℕ) (s r : List K.Elem) → Lanes K w s (λ t. pair_sum K p (f t) (g t)) → Lanes K w r (λ t. K.add (K.add (lane K s t) (f t p)) (g t p))
        → Lanes K w r (λ t. pair_sum K (p + 1) (f t) (g t))
    pairs_next p s r h k = record { count = k.count; sum = λ t l. pair-next K (f t) (g t) p _ _ (h.sum t l) (k.sum t l) }

  -- the sum that is read for column j, where they are those of the columns from `from` on
  pub sum_of : (f : ℕ → K.Elem) (s : List K.Elem) (from j : ℕ) (d : K.Elem) → Lanes K w s (λ t. f (from + t)) → from ≤ j → j < from + w
      → get_or s (j - from) d ≡ f j
  sum_of f s from j d h l m =
      let q : j - from < w = omega arith in
      let e : from + (j - from) ≡ j = omega arith in
      get_or_default s (j - from) d K.zero (omega (arith, h.count)) ∙ h.sum (j - from) q ∙ ap f e

-- ---- an element settled by a number that is known

pub settled : (K : Kind) (v : View) (i j : ℕ) (scale : K.Elem → K.Elem) (x y : K.Elem) (s t : List K.Cell) → x ≡ y
    → t ≡ replaced K v i j (λ old. K.add (scale old) x) s → t ≡ replaced K v i j (λ old. K.add (scale old) y) s
settled K v i j scale x y s t e h = h ∙ ap (λ z. replaced K v i j (λ old. K.add (scale old) z) s) e
