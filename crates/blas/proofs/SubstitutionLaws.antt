-- Substitution as a loop meets it: a difference's first and next step, solving order, the first zero pivot, and where the n-th element stands.
use Prim.Native.Nat.{ℕ, zero, suc, ◌+◌, ◌-◌, ◌*◌, ◌/◌, ◌≤◌, ◌<◌}
use mathlib.Core.Bool.{Bool, true, false, cond}
use mathlib.Core.Path.{◌≡◌, refl, ap, subst, ◌∙◌}
use native.Mathlib.Nat.{zero-mul, mul_comm, mod-lt, div-lt_iff_lt-mul, div-add-mod'}
use native.Mathlib.Numerals.{add-one}
use native.Mathlib.Omega.{arith}
use lib.Arith.{digits_lt, digits_div, digits_mod}
use Rattle.number.specs.Kind.{Kind}
use Rattle.view.specs.declared.View.{View}
use Rattle.view.specs.declared.Side.{Side}
use Rattle.view.specs.declared.Side.TheVariants.{Left, Right}
use Rattle.view.specs.Checks.{order_of}
use Rattle.view.proofs.AnyLaws.{clash}
use Rattle.blas.specs.Substitution.{in_order, least_solved, turn_of, line_of, first_at, minus_terms}
use Rattle.blas.specs.Solves.{lines_of, minus_before}

-- ---- a difference

module _ (K : Kind) (x : K.Elem) (f : ℕ → K.Elem) (from : ℕ) where
  pub minus-start : minus_terms K x f from 0 ≡ x
  unfolding minus_terms
  minus-start = refl

  pub minus-next : (n : ℕ) (y z w : K.Elem) → y ≡ minus_terms K x f from n → z ≡ f (from + n) → w ≡ K.sub y z → w ≡ minus_terms K x f from (n + 1)
  unfolding minus_terms
  minus-next n y z w h g e = rw add-one (e ∙ (λ i. K.sub (h i) (g i)))

-- what is taken off agrees
pub minus-cong : (K : Kind) (x y : K.Elem) (f g : ℕ → K.Elem) (from n : ℕ) → x ≡ y → ((i : ℕ) → i < n → f (from + i) ≡ g (from + i)) → minus_terms K x f from n ≡ minus_terms K y g from n
unfolding minus_terms
minus-cong K x y f g from zero e h = e
minus-cong K x y f g from (suc n) e h = λ i. K.sub (minus-cong K x y f g from n e (λ j l. h j (omega arith)) i) (h n (omega arith) i)

-- ---- solving order

pub in-order-lt : (last : Bool) (m k : ℕ) → k < m → in_order last m k < m
in-order-lt true m k h = omega arith
in-order-lt false m k h = h

-- the order is its own inverse
pub in-order-twice : (last : Bool) (m k : ℕ) → k < m → in_order last m (in_order last m k) ≡ k
in-order-twice true m k h = omega arith
in-order-twice false m k h = refl

-- the unknowns that are solved before are unknowns of the line, each of them solved earlier
pub solved-below : (last : Bool) (m k i : ℕ) → k < m → i < k → least_solved last m k + i < m
solved-below true m k i h g = omega arith
solved-below false m k i h g = omega arith

pub before-earlier : (last : Bool) (m k p : ℕ) → k < m → least_solved last m k ≤ p → p < least_solved last m k + k → in_order last m p < k
before-earlier true m k p h l g = omega arith
before-earlier false m k p h l g = omega arith

-- the unknowns before the one that is solved after k others, from the least
pub minus-before : (K : Kind) (last : Bool) (m k : ℕ) (f : ℕ → K.Elem) (x : K.Elem) → k < m → minus_terms K x f (least_solved last m k) k ≡ minus_before K last m (in_order last m k) f x
minus-before K true m k f x h =
    let d : m - k ≡ suc (m - suc k) = omega arith in
    let e : k ≡ m - suc (m - suc k) = omega arith in
    λ i. minus_terms K x f (d i) (e i)
minus-before K false m k f x h = refl

-- the first number at which f passes
pub first-is : (m : ℕ) (f : ℕ → Bool) (n : ℕ) → n < m → f n ≡ true → ((k : ℕ) → k < n → f k ≡ false) → first_at m f ≡ n
unfolding first_at
first-is zero f n h e before = absurd (none n h)
  where
    none : (n : ℕ) → n < 0 → ⊥
    none n h = omega arith
first-is (suc m) f zero h e before = rw e
first-is (suc m) f (suc n) h e before =
    rw (before 0 (omega arith)) (ap suc (first-is m (λ k. f (suc k)) n (omega arith) e (λ k g. before (suc k) (omega arith))))

-- where it passes nowhere, where it passes somewhere, and that it passes there
pub first-none : (m : ℕ) (f : ℕ → Bool) → ((k : ℕ) → k < m → f k ≡ false) → first_at m f ≡ m
unfolding first_at
first-none zero f h = refl
first-none (suc m) f h = rw (h 0 (omega arith)) (ap suc (first-none m (λ k. f (suc k)) (λ k g. h (suc k) (omega arith))))

pub first-lt : (m : ℕ) (f : ℕ → Bool) (n : ℕ) → n < m → f n ≡ true → first_at m f < m
unfolding first_at
first-lt zero f n h e = absurd (none n h)
  where
    none : (n : ℕ) → n < 0 → ⊥
    none n h = omega arith
first-lt (suc m) f n h e = go (f 0) refl n h e (first-lt m (λ k. f (suc k)))
  where
    go : (b : Bool) → f 0 ≡ b → (n : ℕ) → n < suc m → f n ≡ true → ((j : ℕ) → j < m → f (suc j) ≡ true → first_at m (λ k. f (suc k)) < m)
        → cond b zero (suc (first_at m (λ k. f (suc k)))) < suc m
    go true d n h e later = omega arith
    go false d zero h e later = absurd (clash e d)
    go false d (suc n) h e later = let g = later n (omega arith) e in omega (arith, g)

pub first-true : (m : ℕ) (f : ℕ → Bool) → first_at m f < m → f (first_at m f) ≡ true
unfolding first_at
first-true zero f h = absurd (none h)
  where
    none : zero < zero → ⊥
    none h = omega arith
first-true (suc m) f h = go (f 0) refl h (first-true m (λ k. f (suc k)))
  where
    go : (b : Bool) → f 0 ≡ b → cond b zero (suc (first_at m (λ k. f (suc k)))) < suc m
        → (first_at m (λ k. f (suc k)) < m → f (suc (first_at m (λ k. f (suc k)))) ≡ true) → f (cond b zero (suc (first_at m (λ k. f (suc k))))) ≡ true
    go true d h later = d
    go false d h later = later (omega arith)

pub first-le : (n : ℕ) (f : ℕ → Bool) → first_at n f ≤ n
unfolding first_at
first-le zero f = omega arith
first-le (suc n) f = go (f 0) (first-le n (λ k. f (suc k)))
  where
    go : (b : Bool) → first_at n (λ k. f (suc k)) ≤ n → cond b zero (suc (first_at n (λ k. f (suc k)))) ≤ suc n
    go true h = omega arith
    go false h = omega arith

-- it passes at no number before
pub first-before : (m : ℕ) (f : ℕ → Bool) (k : ℕ) → k < first_at m f → f k ≡ false
unfolding first_at
first-before zero f k h = absurd (none k h)
  where
    none : (n : ℕ) → n < 0 → ⊥
    none n h = omega arith
first-before (suc m) f k h = go (f 0) refl k h (first-before m (λ j. f (suc j)))
  where
    none : (n : ℕ) → n < 0 → ⊥
    none n h = omega arith

    go : (b : Bool) → f 0 ≡ b → (k : ℕ) → k < cond b zero (suc (first_at m (λ j. f (suc j)))) → ((j : ℕ) → j < first_at m (λ i. f (suc i)) → f (suc j) ≡ false) → f k ≡ false
    go true d k h later = absurd (none k h)
    go false d zero h later = d
    go false d (suc k) h later = later k (omega arith)

-- ---- the n-th element

pub factor-pos : (n r c : ℕ) → n < r * c → 0 < r
factor-pos n zero c h = absurd (none n (subst (λ (k : ℕ). n < k) (zero-mul c) h))
  where
    none : (n : ℕ) → n < 0 → ⊥
    none n h = omega arith
factor-pos n (suc r) c h = omega arith

pub quotient-lt : (n r c : ℕ) → n < r * c → n / r < c
quotient-lt n r c h = (div-lt_iff_lt-mul (factor-pos n r c h)).1 (subst (λ (k : ℕ). n < k) (mul_comm r c) h)

pub turn-lt : (side : Side) (v : View) (n : ℕ) → n < v.rows * v.cols → turn_of side v n < order_of side v
turn-lt Left v n h = mod-lt n (factor-pos n v.rows v.cols h)
turn-lt Right v n h = quotient-lt n v.rows v.cols h

pub line-lt : (side : Side) (v : View) (n : ℕ) → n < v.rows * v.cols → line_of side v n < lines_of side v
line-lt Left v n h = quotient-lt n v.rows v.cols h
line-lt Right v n h = mod-lt n (factor-pos n v.rows v.cols h)

-- the number, in solving order, of the unknown of line l that is solved after k others of its line
abbrev pub number_of : Side → View → ℕ → ℕ → ℕ
number_of Left v k l = l * v.rows + k
number_of Right v k l = k * v.rows + l

pub number_is : (side : Side) (v : View) (n : ℕ) → number_of side v (turn_of side v n) (line_of side v n) ≡ n
number_is Left v n = div-add-mod' n v.rows
number_is Right v n = div-add-mod' n v.rows

pub number-turn : (side : Side) (v : View) (k l : ℕ) → k < order_of side v → l < lines_of side v
    → (turn_of side v (number_of side v k l) ≡ k) × (line_of side v (number_of side v k l) ≡ l)
number-turn Left v k l h g = (digits_mod l h, digits_div l h)
number-turn Right v k l h g = (digits_div k g, digits_mod k g)

pub number_lt : (side : Side) (v : View) (k l : ℕ) → k < order_of side v → l < lines_of side v → number_of side v k l < v.rows * v.cols
number_lt Left v k l h g = let w : l * v.rows + k < v.cols * v.rows = digits_lt g h in omega arith
number_lt Right v k l h g = let w : k * v.rows + l < v.cols * v.rows = digits_lt h g in omega arith

pub number-earlier : (side : Side) (v : View) (i k l : ℕ) → i < k → l < lines_of side v → number_of side v i l < number_of side v k l
number-earlier Left v i k l h g = omega arith
number-earlier Right v i k l h g = let w : i * v.rows + l < k * v.rows = digits_lt h g in omega arith
