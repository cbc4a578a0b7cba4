-- The laws that whole numbers have and floats lack: those of a ring with a conjugate and real factors, where the tests for zero and one are equality.
-- By them a sum may be taken apart and put together again.
use Prim.Native.Nat.{ℕ, zero, suc}
use mathlib.Core.Bool.{Bool, true, false, cond}
use mathlib.Core.Path.{◌≡◌, refl, sym, ap, ◌∙◌}
use Rattle.number.specs.Kind.{Kind}
use Rattle.blas.specs.Matrix.{sum, sum_over, pair_sum}

pub record Ring (Z : Kind) : Type 0 where
  pub add-zero : (a : Z.Elem) → Z.add a Z.zero ≡ a
  pub add_assoc : (a b c : Z.Elem) → Z.add (Z.add a b) c ≡ Z.add a (Z.add b c)
  pub add_comm : (a b : Z.Elem) → Z.add a b ≡ Z.add b a
  pub mul-zero : (a : Z.Elem) → Z.mul a Z.zero ≡ Z.zero
  pub zero-mul : (a : Z.Elem) → Z.mul Z.zero a ≡ Z.zero
  pub one-mul : (a : Z.Elem) → Z.mul Z.one a ≡ a
  pub mul_assoc : (a b c : Z.Elem) → Z.mul (Z.mul a b) c ≡ Z.mul a (Z.mul b c)
  pub mul-add : (a b c : Z.Elem) → Z.mul a (Z.add b c) ≡ Z.add (Z.mul a b) (Z.mul a c)
  pub scale-mul : (v : Z.Factor) (a b : Z.Elem) → Z.mul (Z.scale_real v a) b ≡ Z.scale_real v (Z.mul a b)
  pub zero-scale : (v : Z.Factor) (a : Z.Elem) → Z.is_zero_factor v ≡ true → Z.scale_real v a ≡ Z.zero
  pub one-scale : (v : Z.Factor) (a : Z.Elem) → Z.is_one_factor v ≡ true → Z.scale_real v a ≡ a
  pub is-zero : (a : Z.Elem) → Z.is_zero a ≡ true → a ≡ Z.zero
  pub is_one : (a : Z.Elem) → Z.is_one a ≡ true → a ≡ Z.one
  pub conj-zero : Z.conj Z.zero ≡ Z.zero
  pub conj-one : Z.conj Z.one ≡ Z.one

-- four summands, the middle two exchanged
pub exchange : {A : Type 0} (add : A → A → A) → ((a b c : A) → add (add a b) c ≡ add a (add b c)) → ((a b : A) → add a b ≡ add b a)
    → (a b c d : A) → add (add a b) (add c d) ≡ add (add a c) (add b d)
exchange {A} add assoc comm a b c d =
    assoc a b (add c d)
    ∙ ap (add a) (sym (assoc b c d) ∙ ap (λ (x : A). add x d) (comm b c) ∙ assoc c b d)
    ∙ sym (assoc a c (add b d))

module _ {Z : Kind} (R : Ring Z) where
  -- ---- products with a number that is zero or one

  pub zero-times : (a b : Z.Elem) → Z.is_zero a ≡ true → Z.mul a b ≡ Z.zero
  zero-times a b h = ap (λ (x : Z.Elem). Z.mul x b) (R.is-zero a h) ∙ R.zero-mul b

  pub one-times : (a b : Z.Elem) → Z.is_one a ≡ true → Z.mul a b ≡ b
  one-times a b h = ap (λ (x : Z.Elem). Z.mul x b) (R.is_one a h) ∙ R.one-mul b

  -- ---- sums

  -- two sums taken together, index by index
  pub pair-apart : (n : ℕ) (f g : ℕ → Z.Elem) → pair_sum Z n f g ≡ Z.add (sum Z n f) (sum Z n g)
  unfolding pair_sum sum
  pair-apart zero f g = sym (R.add-zero Z.zero)
  pair-apart (suc n) f g =
      R.add_assoc (pair_sum Z n f g) (f n) (g n)
      ∙ ap (λ (x : Z.Elem). Z.add x (Z.add (f n) (g n))) (pair-apart n f g)
      ∙ exchange Z.add R.add_assoc R.add_comm (sum Z n f) (sum Z n g) (f n) (g n)

  -- a factor inside a sum
  pub factor-out : (n : ℕ) (a : Z.Elem) (f : ℕ → Z.Elem) → sum Z n (λ p. Z.mul a (f p)) ≡ Z.mul a (sum Z n f)
  unfolding sum
  factor-out zero a f = sym (R.mul-zero a)
  factor-out (suc n) a f = ap (λ (x : Z.Elem). Z.add x (Z.mul a (f n))) (factor-out n a f) ∙ sym (R.mul-add a (sum Z n f) (f n))

  -- alpha in each term's first product
  pub weight-out : (n : ℕ) (a : Z.Elem) (f g : ℕ → Z.Elem)
      → sum Z n (λ p. Z.mul (Z.mul a (f p)) (g p)) ≡ Z.mul a (sum Z n (λ p. Z.mul (f p) (g p)))
  weight-out n a f g = (λ i. sum Z n (λ p. R.mul_assoc a (f p) (g p) i)) ∙ factor-out n a (λ p. Z.mul (f p) (g p))

  -- a skipped term counts as ZERO
  pub skipped : (n : ℕ) (admits : ℕ → Bool) (f g : ℕ → Z.Elem) → ((p : ℕ) → admits p ≡ true → f p ≡ g p)
      → ((p : ℕ) → admits p ≡ false → g p ≡ Z.zero)
      → sum_over Z n admits f ≡ sum Z n g
  unfolding sum_over sum
  skipped zero admits f g h h' = refl
  skipped (suc n) admits f g h h' = go (admits n) (h n) (h' n) (skipped n admits f g h h')
    where
      go : (b : Bool) → (b ≡ true → f n ≡ g n) → (b ≡ false → g n ≡ Z.zero) → sum_over Z n admits f ≡ sum Z n g
          → cond b (Z.add (sum_over Z n admits f) (f n)) (sum_over Z n admits f) ≡ Z.add (sum Z n g) (g n)
      go true e e' same = λ i. Z.add (same i) (e refl i)
      go false e e' same = same ∙ sym (ap (Z.add (sum Z n g)) (e' refl) ∙ R.add-zero (sum Z n g))
