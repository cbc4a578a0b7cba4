-- The multiples of one stride against those of the other: where k * x = d * y, for k < rows and d < cols that are not both 0.
use mathlib.Core.Path.{◌≡◌, sym, ◌∙◌, ap}
use mathlib.Core.Bool.{true, false}
use Prim.Native.Nat.{ℕ, zero, suc, ◌+◌, ◌-◌, ◌*◌, ◌/◌, ◌%◌, ◌≤◌, ◌<◌}
use native.Mathlib.Nat.{mul-zero, zero-mul, one-mul, mul-pos, mul-le-mul_right, div-add-mod', mod-lt}
use native.Mathlib.Decide.{dec_lt}
use lib.Dec.{leb}
use borrow.Author.Tests.{leb-true}
use native.Mathlib.Omega.{arith}
use Rattle.view.proofs.AnyLaws.{both_ways}
use Rattle.view.specs.Steps.{meets}
use Rattle.view.proofs.OverlapLaws.{overlaps-is, Meeting, meets→meeting, meeting→meets, no-meeting}

-- ---- single steps, and strides that are far apart

pub found : (rows x cols y k d : ℕ) → k < rows → d < cols → 0 < k + d → k * x ≡ d * y → true ≡ meets rows x cols y
found rows x cols y k d p q s e = sym (meeting→meets rows x cols y (record { k = k; d = d; k_lt = p; d-lt = q; some = s; same = e }))

pub missing : (rows x cols y : ℕ) → (Meeting rows x cols y → ⊥) → false ≡ meets rows x cols y
missing rows x cols y f = sym (no-meeting rows x cols y f)

pub flip : {rows x cols y : ℕ} → Meeting rows x cols y → Meeting cols y rows x
flip m = record { k = m.d; d = m.k; k_lt = m.d-lt; d-lt = m.k_lt; some = omega (arith, m.some); same = sym m.same }

-- of one row only d counts
pub one-row : (rows x cols y : ℕ) → rows ≡ 1 → meets 1 0 cols y ≡ meets rows x cols y
one-row rows x cols y e =
    both_ways (meets 1 0 cols y) (meets rows x cols y)
    (λ t.
    let m = meets→meeting 1 0 cols y t in
    meeting→meets rows x cols y
    (record { k = 0; d = m.d; k_lt = omega arith; d-lt = m.d-lt; some = omega (arith, m.some, m.k_lt); same = zero-mul x ∙ sym (ap (λ (k : ℕ). k * 0) (none m.k m.k_lt)) ∙ m.same }))
    (λ t.
    let m = meets→meeting rows x cols y t in
    let z : m.k ≡ 0 = omega (arith, m.k_lt) in
    meeting→meets 1 0 cols y
    (record { k = 0; d = m.d; k_lt = omega arith; d-lt = m.d-lt; some = omega (arith, m.some, m.k_lt); same = sym (zero-mul x) ∙ sym (ap (λ (k : ℕ). k * x) z) ∙ m.same }))
  where
    none : (k : ℕ) → k < 1 → k ≡ 0
    none k h = omega arith

pub turned : (rows x cols y : ℕ) → meets rows x cols y ≡ meets cols y rows x
turned rows x cols y =
    both_ways (meets rows x cols y) (meets cols y rows x)
    (λ t. meeting→meets cols y rows x (flip (meets→meeting rows x cols y t)))
    (λ t. meeting→meets rows x cols y (flip (meets→meeting cols y rows x t)))

-- x is past every d * y
pub far_apart : (rows x cols y : ℕ) → 0 < y → (cols - 1) * y < x → Meeting rows x cols y → ⊥
far_apart rows x cols y p h m = at m.k m.d m.d-lt m.some m.same
  where
    at : (k d : ℕ) → d < cols → 0 < k + d → k * x ≡ d * y → ⊥
    at zero d q s e = omega (arith, zero-mul x, mul-pos {m = d} {n = y} (omega arith) p)
    at (suc k) d q s e =
        let l : d ≤ cols - 1 = omega arith in
        omega (arith, mul-le-mul_right y l, mul-le-mul_right {m = 1} {n = suc k} x (omega arith), one-mul x)

-- the same with a y that may be 0 where there is but one column
pub each-past : (rows x cols y : ℕ) → cols - 1 ≤ (cols - 1) * y → (cols - 1) * y < x → Meeting rows x cols y → ⊥
each-past rows x cols y p h m = at y p h m.k m.d m.d-lt m.some m.same
  where
    at : (y : ℕ) → cols - 1 ≤ (cols - 1) * y → (cols - 1) * y < x → (k d : ℕ) → d < cols → 0 < k + d → k * x ≡ d * y → ⊥
    at zero p h zero d q s e = omega (arith, mul-zero (cols - 1))
    at (suc y) p h zero d q s e = omega (arith, zero-mul x, mul-pos {m = d} {n = suc y} (omega arith) (omega arith))
    at y p h (suc k) d q s e =
        let l : d ≤ cols - 1 = omega arith in
        omega (arith, mul-le-mul_right y l, mul-le-mul_right {m = 1} {n = suc k} x (omega arith), one-mul x)

-- ---- the cases that need no multiples

pub no-rows : (rows x cols y : ℕ) → rows ≡ 0 → meets rows x cols y ≡ false
no-rows rows x cols y e = sym (missing rows x cols y (λ m. omega (arith, m.k_lt)))

pub no-cols : (rows x cols y : ℕ) → cols ≡ 0 → meets rows x cols y ≡ false
no-cols rows x cols y e = sym (missing rows x cols y (λ m. omega (arith, m.d-lt)))

pub single-row : (rows x cols y : ℕ) → rows ≡ 1 → meets rows x cols y ≡ meets 1 0 cols y
single-row rows x cols y e = sym (one-row rows x cols y e)

pub single-col : (rows x cols y : ℕ) → cols ≡ 1 → meets rows x cols y ≡ meets 1 0 rows x
single-col rows x cols y e = turned rows x cols y ∙ sym (one-row cols y rows x e)

pub still-rows : (rows x cols y : ℕ) → x ≡ 0 → 1 < rows → 0 < cols → meets rows x cols y ≡ true
still-rows rows x cols y e p q = sym (found rows x cols y 1 0 p q (omega arith) (one-mul x ∙ e ∙ sym (zero-mul y)))

pub still-cols : (rows x cols y : ℕ) → y ≡ 0 → 0 < rows → 1 < cols → meets rows x cols y ≡ true
still-cols rows x cols y e p q = sym (found rows x cols y 0 1 p q (omega arith) (zero-mul x ∙ sym (one-mul y ∙ e)))

pub far-rows : (rows x cols y : ℕ) → leb ((cols - 1) * y) (x - 1) ≡ true → 0 < x → 0 < y → meets rows x cols y ≡ false
far-rows rows x cols y h p q =
    sym (missing rows x cols y (far_apart rows x cols y q (omega (arith, leb-true ((cols - 1) * y) (x - 1) h))))

pub far-cols : (rows x cols y : ℕ) → leb ((rows - 1) * x) (y - 1) ≡ true → 0 < x → 0 < y → meets rows x cols y ≡ false
far-cols rows x cols y h p q = turned rows x cols y ∙ far-rows cols y rows x h q p

pub ruleset cases = (no-rows, no-cols, single-row, single-col, still-rows, still-cols, far-rows, far-cols)

-- two elements share a place where a multiple of one stride's size is one of the other's
pub ruleset overlap_law = overlaps-is

-- ---- one multiple of x after the other

pub record At (x cols y q m k quot rem : ℕ) : Type 0 where
  pub k-pos : 0 < k
  pub whole : k * x ≡ quot * y + rem
  pub rem_lt : rem < y
  pub x-is : x ≡ q * y + m
  pub m-lt : m < y
  pub none : (j d : ℕ) → 0 < j → j < k → d < cols → j * x ≡ d * y → ⊥

pub first : (x cols y : ℕ) → 0 < y → At x cols y (x / y) (x % y) 1 (x / y) (x % y)
first x cols y p = record {
  k-pos = omega arith;
  whole = one-mul x ∙ sym (div-add-mod' x y);
  rem_lt = mod-lt x p;
  x-is = sym (div-add-mod' x y);
  m-lt = mod-lt x p;
  none = λ j d s t u e. omega arith;
}

-- past the last multiple of y
too_far : (x y k j d cols n : ℕ) → 0 < y → k ≤ j → d < cols → cols ≤ n → n * y ≤ k * x → j * x ≡ d * y → ⊥
too_far x y k j d cols n p h q l g e =
    let u : suc d ≤ n = omega arith in
    omega (arith, mul-le-mul_right x h, mul-le-mul_right y u)

-- between two multiples of y
between : (x y k d quot rem : ℕ) → k * x ≡ quot * y + rem → 0 < rem → rem < y → k * x ≡ d * y → ⊥
between x y k d quot rem e p q h = at (dec_lt quot d)
  where
    at : Dec (quot < d) → ⊥
    at (yes l) = omega (arith, mul-le-mul_right y l)
    at (no l) = let g : d ≤ quot = omega arith in omega (arith, mul-le-mul_right y g)

module _ (x cols y q m k quot rem : ℕ) (a : At x cols y q m k quot rem) where
  -- k · x has nothing in common with the multiples of y
  pub skip : 0 < rem → (j d : ℕ) → 0 < j → j < k + 1 → d < cols → j * x ≡ d * y → ⊥
  skip p j d s t u e = at (dec_lt j k)
    where
      here : (j k : ℕ) → j < k + 1 → (j < k → ⊥) → k ≡ j
      here j k t f = omega arith

      at : Dec (j < k) → ⊥
      at (yes l) = a.none j d s l u e
      at (no l) = between x y k d quot rem a.whole p a.rem_lt (ap (λ (i : ℕ). i * x) (here j k t l) ∙ e)

  pub past : cols ≤ quot → (j d : ℕ) → 0 < j → d < cols → j * x ≡ d * y → ⊥
  past h j d s u e = at (dec_lt j k)
    where
      at : Dec (j < k) → ⊥
      at (yes l) = a.none j d s l u e
      at (no l) = too_far x y k j d cols quot (omega (arith, a.rem_lt)) (omega arith) u h (omega (arith, a.whole)) e

  pub past_next : 0 < rem → cols ≤ quot + q → (j d : ℕ) → 0 < j → d < cols → j * x ≡ d * y → ⊥
  past_next p h j d s u e = at (dec_lt j (k + 1))
    where
      at : Dec (j < k + 1) → ⊥
      at (yes l) = skip p j d s l u e
      at (no l) = too_far x y (k + 1) j d cols (quot + q) (omega (arith, a.rem_lt)) (omega arith) u h (omega (arith, a.whole, a.x-is)) e

  pub carry : 0 < rem → y - m ≤ rem → At x cols y q m (k + 1) (quot + (q + 1)) (rem - (y - m))
  carry p h = record {
    k-pos = omega arith;
    whole = omega (arith, a.whole, a.x-is, a.m-lt);
    rem_lt = omega (arith, a.rem_lt, a.m-lt);
    x-is = a.x-is;
    m-lt = a.m-lt;
    none = skip p;
  }

  pub no-carry : 0 < rem → rem < y - m → At x cols y q m (k + 1) (quot + q) (rem + m)
  no-carry p h = record {
    k-pos = omega arith;
    whole = omega (arith, a.whole, a.x-is);
    rem_lt = omega (arith, a.m-lt);
    x-is = a.x-is;
    m-lt = a.m-lt;
    none = skip p;
  }

-- no multiple of x meets one of y
pub none-meet : (rows x cols y : ℕ) → 0 < y → ((j d : ℕ) → 0 < j → j < rows → d < cols → j * x ≡ d * y → ⊥) → Meeting rows x cols y → ⊥
none-meet rows x cols y p f m = at m.k m.d m.k_lt m.d-lt m.some m.same
  where
    at : (k d : ℕ) → k < rows → d < cols → 0 < k + d → k * x ≡ d * y → ⊥
    at zero d q u s e = omega (arith, zero-mul x, mul-pos {m = d} {n = y} (omega arith) p)
    at (suc k) d q u s e = f (suc k) d (omega arith) q u e
