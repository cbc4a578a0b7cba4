-- Laws of `overlaps`: two elements share a place where some k steps of one stride reach as far as d steps of the other.
use mathlib.Core.Path.{◌≡◌, refl, sym, ◌∙◌, ap, subst}
use mathlib.Core.Bool.{true, false, not, ◌&&◌}
use mathlib.Core.Logic.{◌⊎◌, inl, inr, ⊎_elim}
use Prim.Native.Nat.{ℕ, zero, suc, ◌+◌, ◌-◌, ◌*◌, ◌≤◌, ◌<◌}
use native.Mathlib.Nat.{mul-zero, zero-mul}
use native.Mathlib.Decide.{ℕ_discrete, dec_le}
use native.Mathlib.Omega.{arith}
use lib.Dec.{eqb, ltb}
use lib.IntN.{ℤ, pos, negsuc, nat_abs}
use borrow.Author.Tests.{ltb-true, lt-ltb, eqb-true, eq-eqb, not-true}
use Rattle.view.specs.declared.View.{View}
use Rattle.view.specs.Any.{any}
use Rattle.view.proofs.AnyLaws.{found₂, finds₂, is_false, clash, both_ways, and_left, and_right, and_both}
use Rattle.view.specs.Place.{place, index}
use Rattle.view.specs.Refusals.{eq_z, doubled, overlaps, Fits}
use Rattle.view.specs.Steps.{up, down, meets}
use Rattle.view.proofs.Signs.{Diff, diff-one, diff-same}
use Rattle.view.proofs.PlaceLaws.{above, below, diff-place, fits→place}

-- ---- `meets`

pub record Meeting (rows x cols y : ℕ) : Type 0 where
  pub k : ℕ
  pub d : ℕ
  pub k_lt : k < rows
  pub d-lt : d < cols
  pub some : 0 < k + d
  pub same : k * x ≡ d * y

pub meets→meeting : (rows x cols y : ℕ) → meets rows x cols y ≡ true → Meeting rows x cols y
unfolding meets
meets→meeting rows x cols y h =
    let w = finds₂ rows cols (λ k d. ltb 0 (k + d) && eqb (k * x) (d * y)) h in
    let t = w.4 in
    record {
      k = w.0;
      d = w.1;
      k_lt = w.2;
      d-lt = w.3;
      some = ltb-true 0 (w.0 + w.1) (and_left (ltb 0 (w.0 + w.1)) (eqb (w.0 * x) (w.1 * y)) t);
      same = eqb-true (w.0 * x) (w.1 * y) (and_right (ltb 0 (w.0 + w.1)) (eqb (w.0 * x) (w.1 * y)) t);
    }

pub meeting→meets : (rows x cols y : ℕ) → Meeting rows x cols y → meets rows x cols y ≡ true
unfolding meets
meeting→meets rows x cols y m =
    found₂ rows cols (λ k d. ltb 0 (k + d) && eqb (k * x) (d * y)) m.k m.d m.k_lt m.d-lt
    (and_both (ltb 0 (m.k + m.d)) (eqb (m.k * x) (m.d * y)) (lt-ltb 0 (m.k + m.d) m.some) (eq-eqb (m.k * x) (m.d * y) m.same))

pub no-meeting : (rows x cols y : ℕ) → (Meeting rows x cols y → ⊥) → meets rows x cols y ≡ false
no-meeting rows x cols y f = is_false (meets rows x cols y) (λ t. f (meets→meeting rows x cols y t))

-- ---- `overlaps`

pub record Doubled (v : View) : Type 0 where
  pub r : ℕ
  pub c : ℕ
  pub r' : ℕ
  pub c' : ℕ
  pub r-lt : r < v.rows
  pub c_lt : c < v.cols
  pub r'-lt : r' < v.rows
  pub c'-lt : c' < v.cols
  pub apart : r ≡ r' → c ≡ c' → ⊥
  pub same : place v r c ≡ place v r' c'

eq_z-same : (z : ℤ) → eq_z z z ≡ true
eq_z-same (pos n) = eq-eqb n n refl
eq_z-same (negsuc n) = eq-eqb n n refl

eq_z-true : (z w : ℤ) → eq_z z w ≡ true → z ≡ w
eq_z-true (pos m) (pos n) h = ap pos (eqb-true m n h)
eq_z-true (pos m) (negsuc n) h = absurd (clash h refl)
eq_z-true (negsuc m) (pos n) h = absurd (clash h refl)
eq_z-true (negsuc m) (negsuc n) h = ap negsuc (eqb-true m n h)

pub doubled→overlaps : (v : View) → Doubled v → overlaps v ≡ true
unfolding overlaps
doubled→overlaps v w =
    found₂ v.rows v.cols (λ r c. any v.rows (λ r'. any v.cols (λ c'. doubled v r c r' c')))
    w.r w.c w.r-lt w.c_lt
    (found₂ v.rows v.cols (λ r' c'. doubled v w.r w.c r' c') w.r' w.c' w.r'-lt w.c'-lt
    (and_both (not (eqb w.r w.r' && eqb w.c w.c')) (eq_z (place v w.r w.c) (place v w.r' w.c'))
    (ap not (is_false (eqb w.r w.r' && eqb w.c w.c')
    (λ t. w.apart
    (eqb-true w.r w.r' (and_left (eqb w.r w.r') (eqb w.c w.c') t))
    (eqb-true w.c w.c' (and_right (eqb w.r w.r') (eqb w.c w.c') t)))))
    (subst (λ (z : ℤ). eq_z (place v w.r w.c) z ≡ true) w.same (eq_z-same (place v w.r w.c)))))

pub overlaps→doubled : (v : View) → overlaps v ≡ true → Doubled v
unfolding overlaps
overlaps→doubled v h =
    let w = finds₂ v.rows v.cols (λ r c. any v.rows (λ r'. any v.cols (λ c'. doubled v r c r' c'))) h in
    let u = finds₂ v.rows v.cols (λ r' c'. doubled v w.0 w.1 r' c') w.4 in
    let two = not (eqb w.0 u.0 && eqb w.1 u.1) in
    let one = eq_z (place v w.0 w.1) (place v u.0 u.1) in
    record {
      r = w.0;
      c = w.1;
      r' = u.0;
      c' = u.1;
      r-lt = w.2;
      c_lt = w.3;
      r'-lt = u.2;
      c'-lt = u.3;
      apart = λ p q. clash
          (and_both (eqb w.0 u.0) (eqb w.1 u.1) (eq-eqb w.0 u.0 p) (eq-eqb w.1 u.1 q))
          (not-true (eqb w.0 u.0 && eqb w.1 u.1) (and_left two one u.4));
      same = eq_z-true (place v w.0 w.1) (place v u.0 u.1) (and_right two one u.4);
    }

-- ---- the two are one

-- r and r' are k apart, and so are what they reach by the stride z
record Step (z : ℤ) (r r' : ℕ) : Type 0 where
  k : ℕ
  far : (k + r ≡ r') ⊎ (k + r' ≡ r)
  reach : (r' * up z + r * down z ≡ r * up z + r' * down z + k * nat_abs z) ⊎ (r * up z + r' * down z ≡ r' * up z + r * down z + k * nat_abs z)

step-up : (z : ℤ) (r r' k : ℕ) → k + r ≡ r' → (r' * up z + r * down z ≡ r * up z + r' * down z + k * nat_abs z) ⊎ (r * up z + r' * down z ≡ r' * up z + r * down z + k * nat_abs z)
step-up (pos n) r r' k e = inl (omega (arith, ap (λ (m : ℕ). m * n) e, mul-zero r, mul-zero r'))
step-up (negsuc n) r r' k e = inr (omega (arith, ap (λ (m : ℕ). m * suc n) e, mul-zero r, mul-zero r'))

swap : {A B : Type 0} → A ⊎ B → B ⊎ A
swap (inl a) = inr a
swap (inr b) = inl b

step : (z : ℤ) (r r' : ℕ) → Step z r r'
step z r r' = at (dec_le r r')
  where
    at : Dec (r ≤ r') → Step z r r'
    at (yes h) = let e : r' - r + r ≡ r' = omega arith in record { k = r' - r; far = inl e; reach = step-up z r r' (r' - r) e }
    at (no h) = let e : r - r' + r' ≡ r = omega arith in record { k = r - r'; far = inr e; reach = swap (step-up z r' r (r - r') e) }

level : (p q p' q' m n : ℕ) → p + p' ≡ q + q' → (q ≡ p + m) ⊎ (p ≡ q + m) → (q' ≡ p' + n) ⊎ (p' ≡ q' + n) → m ≡ n
level p q p' q' m n e (inl h) (inl g) = omega arith
level p q p' q' m n e (inl h) (inr g) = omega arith
level p q p' q' m n e (inr h) (inl g) = omega arith
level p q p' q' m n e (inr h) (inr g) = omega arith

short : (k r r' n : ℕ) → (k + r ≡ r') ⊎ (k + r' ≡ r) → r < n → r' < n → k < n
short k r r' n (inl e) p q = omega arith
short k r r' n (inr e) p q = omega arith

together : (k r r' : ℕ) → (k + r ≡ r') ⊎ (k + r' ≡ r) → k ≡ 0 → r ≡ r'
together k r r' (inl e) z = omega arith
together k r r' (inr e) z = omega arith

doubled→meeting : (v : View) → Doubled v → Meeting v.rows (nat_abs v.rs) v.cols (nat_abs v.cs)
doubled→meeting v w =
    let a = step v.rs w.r w.r' in
    let b = step v.cs w.c w.c' in
    let e : above v w.r w.c + below v w.r' w.c' ≡ above v w.r' w.c' + below v w.r w.c =
    diff-one (place v w.r' w.c')
    (subst (λ (z : ℤ). Diff z (above v w.r w.c) (below v w.r w.c)) w.same (diff-place v w.r w.c))
    (diff-place v w.r' w.c')
    in
    record {
      k = a.k;
      d = b.k;
      k_lt = short a.k w.r w.r' v.rows a.far w.r-lt w.r'-lt;
      d-lt = short b.k w.c w.c' v.cols b.far w.c_lt w.c'-lt;
      some = at a.k b.k (λ p q. w.apart (together a.k w.r w.r' a.far p) (together b.k w.c w.c' b.far q));
      same = level
          (w.r * up v.rs + w.r' * down v.rs)
          (w.r' * up v.rs + w.r * down v.rs)
          (w.c * up v.cs + w.c' * down v.cs)
          (w.c' * up v.cs + w.c * down v.cs)
          (a.k * nat_abs v.rs)
          (b.k * nat_abs v.cs)
          (omega arith)
          a.reach
          b.reach;
    }
  where
    at : (k d : ℕ) → (k ≡ 0 → d ≡ 0 → ⊥) → 0 < k + d
    at zero zero f = absurd (f refl refl)
    at zero (suc d) f = omega arith
    at (suc k) d f = omega arith

-- a pair of elements k rows and d columns apart is on one place: (k, 0) and (0, d), or (0, 0) and (k, d), by the strides' signs
crossed : (s k d : ℕ) (z w : ℤ) → k * nat_abs z ≡ d * nat_abs w → (s + k * up z + 0 * up w + (0 * down z + d * down w) ≡ s + 0 * up z + d * up w + (k * down z + 0 * down w)) ⊎ (s + 0 * up z + 0 * up w + (k * down z + d * down w) ≡ s + k * up z + d * up w + (0 * down z + 0 * down w))
crossed s k d (pos m) (pos n) e = inl (omega (arith, zero-mul m, zero-mul n, mul-zero k, mul-zero d))
crossed s k d (pos m) (negsuc n) e = inr (omega (arith, zero-mul m, zero-mul (suc n), mul-zero k, mul-zero d))
crossed s k d (negsuc m) (pos n) e = inr (omega (arith, zero-mul (suc m), zero-mul n, mul-zero k, mul-zero d))
crossed s k d (negsuc m) (negsuc n) e = inl (omega (arith, zero-mul (suc m), zero-mul (suc n), mul-zero k, mul-zero d))

one_place : (v : View) (r c r' c' : ℕ) → above v r c + below v r' c' ≡ above v r' c' + below v r c → place v r c ≡ place v r' c'
one_place v r c r' c' e = diff-same (place v r c) (place v r' c') (diff-place v r c) (diff-place v r' c') e

meeting→doubled : (v : View) → Meeting v.rows (nat_abs v.rs) v.cols (nat_abs v.cs) → Doubled v
meeting→doubled v m =
    ⊎_elim
    (λ e. record {
      r = m.k;
      c = 0;
      r' = 0;
      c' = m.d;
      r-lt = m.k_lt;
      c_lt = omega (arith, m.d-lt);
      r'-lt = omega (arith, m.k_lt);
      c'-lt = m.d-lt;
      apart = λ p q. omega (arith, m.some);
      same = one_place v m.k 0 0 m.d e;
    })
    (λ e. record {
      r = 0;
      c = 0;
      r' = m.k;
      c' = m.d;
      r-lt = omega (arith, m.k_lt);
      c_lt = omega (arith, m.d-lt);
      r'-lt = m.k_lt;
      c'-lt = m.d-lt;
      apart = λ p q. omega (arith, m.some);
      same = one_place v 0 0 m.k m.d e;
    })
    (crossed v.start m.k m.d v.rs v.cs m.same)

pub overlaps-is : (v : View) → overlaps v ≡ meets v.rows (nat_abs v.rs) v.cols (nat_abs v.cs)
overlaps-is v =
    both_ways (overlaps v) (meets v.rows (nat_abs v.rs) v.cols (nat_abs v.cs))
    (λ t. meeting→meets v.rows (nat_abs v.rs) v.cols (nat_abs v.cs) (doubled→meeting v (overlaps→doubled v t)))
    (λ t. doubled→overlaps v (meeting→doubled v (meets→meeting v.rows (nat_abs v.rs) v.cols (nat_abs v.cs) t)))

-- ---- for kernels

-- two elements at one place of a view that does not overlap are one element
pub no-overlap→one : (v : View) → overlaps v ≡ false → (r c r' c' : ℕ) → r < v.rows → c < v.cols → r' < v.rows → c' < v.cols → place v r c ≡ place v r' c' → (r ≡ r') × (c ≡ c')
no-overlap→one v h r c r' c' p q p' q' e = at (ℕ_discrete r r') (ℕ_discrete c c')
  where
    no-pair : (r ≡ r' → c ≡ c' → ⊥) → (r ≡ r') × (c ≡ c')
    no-pair f = absurd (clash (doubled→overlaps v (record { r = r; c = c; r' = r'; c' = c'; r-lt = p; c_lt = q; r'-lt = p'; c'-lt = q'; apart = f; same = e })) h)

    at : Dec (r ≡ r') → Dec (c ≡ c') → (r ≡ r') × (c ≡ c')
    at (yes a) (yes b) = (a, b)
    at (yes a) (no b) = no-pair (λ x y. b y)
    at (no a) d = no-pair (λ x y. a x)

pub no-overlap→index-inj : (v : View) (len : ℕ) → Fits v len → overlaps v ≡ false → (r c r' c' : ℕ) → r < v.rows → c < v.cols → r' < v.rows → c' < v.cols → index v r c ≡ index v r' c' → (r ≡ r') × (c ≡ c')
no-overlap→index-inj v len f h r c r' c' p q p' q' e =
    no-overlap→one v h r c r' c' p q p' q' (fits→place v len f r c p q ∙ ap pos e ∙ sym (fits→place v len f r' c' p' q'))
