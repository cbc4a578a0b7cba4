-- When two sums over admitted indices are the same.
use Prim.Native.Nat.{ℕ, zero, suc, ◌<◌}
use mathlib.Core.Bool.{Bool, true, false, cond}
use mathlib.Core.Path.{◌≡◌, refl}
use native.Mathlib.Omega.{arith}
use Rattle.number.specs.Kind.{Kind}
use Rattle.blas.specs.Matrix.{sum_over}

module _ (K : Kind) (admits : ℕ → Bool) (f : ℕ → K.Elem) where
  -- terms that agree where they are admitted
  pub over-cong : (g : ℕ → K.Elem) (n : ℕ) → ((p : ℕ) → p < n → admits p ≡ true → f p ≡ g p) → sum_over K n admits f ≡ sum_over K n admits g
  unfolding sum_over
  over-cong g zero h = refl
  over-cong g (suc n) h = go (admits n) (λ e. h n (omega arith) e) (over-cong g n (λ p l. h p (omega arith)))
    where
      go : (b : Bool) → (b ≡ true → f n ≡ g n) → sum_over K n admits f ≡ sum_over K n admits g
          → cond b (K.add (sum_over K n admits f) (f n)) (sum_over K n admits f) ≡ cond b (K.add (sum_over K n admits g) (g n)) (sum_over K n admits g)
      go true e same = λ i. K.add (same i) (e refl i)
      go false e same = same
