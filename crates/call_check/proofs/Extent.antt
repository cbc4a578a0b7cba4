-- The quick bounds test: the last place of a view is below the slab's end and the first is no less than 0, exactly where every
-- element is inside.
use mathlib.Core.Path.{◌≡◌, refl, sym}
use mathlib.Core.Bool.{Bool, true, false, not, ◌||◌}
use lib.Dec.{leb}
use borrow.Author.Tests.{leb-true, le-leb}
use Rattle.view.proofs.AnyLaws.{clash, is_true}
use Prim.Native.Nat.{ℕ, suc, ◌+◌, ◌-◌, ◌*◌, ◌≤◌, ◌<◌, zero-le}
use native.Mathlib.Nat.{mul-zero, zero-mul, le_refl, mul-le-mul_right}
use native.Mathlib.Omega.{arith}
use lib.IntN.{ℤ, pos, negsuc}
use Rattle.view.specs.declared.View.{View}
use Rattle.view.specs.Refusals.{out_of_bounds}
use Rattle.view.specs.Steps.{up, down}
use Rattle.view.proofs.PlaceLaws.{fits→inside, inside→fits, at-fits}

-- among r ≤ a, one that goes all the way up and not down, and one the other way round
record Far (z : ℤ) (a : ℕ) : Type 0 where
  top : ℕ
  top-le : top ≤ a
  top_up : top * up z ≡ a * up z
  top-down : top * down z ≡ 0
  low : ℕ
  low-le : low ≤ a
  low_up : low * up z ≡ 0
  low-down : low * down z ≡ a * down z

far : (z : ℤ) (a : ℕ) → Far z a
far (pos n) a = record { top = a; top-le = le_refl a; top_up = refl; top-down = mul-zero a; low = 0; low-le = zero-le; low_up = zero-mul n; low-down = sym (mul-zero a) }
far (negsuc n) a = record { top = 0; top-le = zero-le; top_up = sym (mul-zero a); top-down = zero-mul (suc n); low = a; low-le = le_refl a; low_up = mul-zero a; low-down = refl }

module _ (v : View) (len a b : ℕ) (p : v.rows ≡ suc a) (q : v.cols ≡ suc b) (s : v.start < len) where
  pub extent-fits : a * up v.rs + b * up v.cs ≤ len - 1 - v.start → a * down v.rs + b * down v.cs ≤ v.start → out_of_bounds v len ≡ false
  extent-fits h g =
      inside→fits v len
      (λ r c r-lt c_lt.
      let x : r ≤ a = omega arith in
      let y : c ≤ b = omega arith in
      record {
        low = omega (arith, mul-le-mul_right (down v.rs) x, mul-le-mul_right (down v.cs) y);
        high = omega (arith, mul-le-mul_right (up v.rs) x, mul-le-mul_right (up v.cs) y);
      })

  pub extent-high : out_of_bounds v len ≡ false → a * up v.rs + b * up v.cs ≤ len - 1 - v.start
  extent-high h =
      let f = far v.rs a in
      let g = far v.cs b in
      let i = fits→inside v len h f.top g.top (omega (arith, f.top-le)) (omega (arith, g.top-le)) in
      omega (arith, i.high, f.top_up, f.top-down, g.top_up, g.top-down)

  pub extent-low : out_of_bounds v len ≡ false → a * down v.rs + b * down v.cs ≤ v.start
  extent-low h =
      let f = far v.rs a in
      let g = far v.cs b in
      let i = fits→inside v len h f.low g.low (omega (arith, f.low-le)) (omega (arith, g.low-le)) in
      omega (arith, i.low, f.low_up, f.low-down, g.low_up, g.low-down)

-- some element is outside where one of the two tests fails
pub outside_is : (v : View) (len : ℕ) → 0 < v.rows → 0 < v.cols → v.start < len
    → out_of_bounds v len ≡ not (leb ((v.rows - 1) * up v.rs + (v.cols - 1) * up v.cs) (len - 1 - v.start)) || not (leb ((v.rows - 1) * down v.rs + (v.cols - 1) * down v.cs) v.start)
outside_is v len p q s =
    at (leb ((v.rows - 1) * up v.rs + (v.cols - 1) * up v.cs) (len - 1 - v.start)) refl
    (leb ((v.rows - 1) * down v.rs + (v.cols - 1) * down v.cs) v.start) refl
  where
    at : (h : Bool) → leb ((v.rows - 1) * up v.rs + (v.cols - 1) * up v.cs) (len - 1 - v.start) ≡ h
        → (l : Bool) → leb ((v.rows - 1) * down v.rs + (v.cols - 1) * down v.cs) v.start ≡ l → out_of_bounds v len ≡ not h || not l
    at true h true l =
        extent-fits v len (v.rows - 1) (v.cols - 1) (omega arith) (omega arith) s (leb-true _ _ h) (leb-true _ _ l)
    at true h false l =
        is_true (out_of_bounds v len)
        (λ f. clash (le-leb _ _ (extent-low v len (v.rows - 1) (v.cols - 1) (omega arith) (omega arith) s f)) l)
    at false h l k =
        is_true (out_of_bounds v len)
        (λ f. clash (le-leb _ _ (extent-high v len (v.rows - 1) (v.cols - 1) (omega arith) (omega arith) s f)) h)

-- an empty shape fits any slab
pub no_rows : (v : View) (len : ℕ) → v.rows ≡ 0 → out_of_bounds v len ≡ false
no_rows v len h = at-fits v len (λ r c p q. absurd (empty r p))
  where
    empty : (r : ℕ) → r < v.rows → ⊥
    empty r p = omega arith

pub no-cols : (v : View) (len : ℕ) → v.cols ≡ 0 → out_of_bounds v len ≡ false
no-cols v len h = at-fits v len (λ r c p q. absurd (empty c q))
  where
    empty : (c : ℕ) → c < v.cols → ⊥
    empty c p = omega arith

-- element (0, 0) stands at the start
pub starts-out : (v : View) (len : ℕ) → (v.rows ≡ 0 → ⊥) → (v.cols ≡ 0 → ⊥) → len ≤ v.start → out_of_bounds v len ≡ false → ⊥
starts-out v len p q h f =
    let i = fits→inside v len f 0 0 (omega arith) (omega arith) in
    omega (arith, i.high, zero-mul (up v.rs), zero-mul (up v.cs), zero-mul (down v.rs), zero-mul (down v.cs))

pub start-past : (v : View) (len : ℕ) → (v.rows ≡ 0 → ⊥) → (v.cols ≡ 0 → ⊥) → len ≤ v.start → out_of_bounds v len ≡ true
start-past v len p q h = is_true (out_of_bounds v len) (starts-out v len p q h)

-- the views that need no more than a look at their shape and start
pub ruleset plain_cases = (no_rows, no-cols, start-past)
