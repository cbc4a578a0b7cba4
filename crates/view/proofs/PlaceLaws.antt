-- Laws of places: a place over the natural numbers, and what a view that fits gives whoever reads and writes through it.
use mathlib.Core.Path.{◌≡◌, refl}
use mathlib.Core.Bool.{false}
use Prim.Native.Nat.{ℕ, suc, ◌+◌, ◌*◌, ◌≤◌, ◌<◌}
use native.Mathlib.Omega.{arith}
use lib.IntN.{ℤ, pos, negsuc, ◌+ℤ◌, ◌*ℤ◌}
use borrow.Author.Tests.{leb-false, lt-leb}
use Rattle.view.specs.declared.View.{View}
use Rattle.view.specs.Any.{any}
use Rattle.view.proofs.AnyLaws.{none, none-at, clash}
use Rattle.view.specs.Place.{place, index}
use Rattle.view.specs.Refusals.{outside, out_of_bounds, Fits}
use Rattle.view.specs.Steps.{up, down}
use Rattle.view.proofs.Signs.{Diff, diff-pos, diff-add, diff-as, diff-steps, diff-abs, diff-nat}

-- a place is `above` less `below`
abbrev pub above : View → ℕ → ℕ → ℕ
above v r c = v.start + r * up v.rs + c * up v.cs

abbrev pub below : View → ℕ → ℕ → ℕ
below v r c = r * down v.rs + c * down v.cs

pub diff-place : (v : View) (r c : ℕ) → Diff (place v r c) (above v r c) (below v r c)
unfolding place
diff-place v r c =
    diff-as (pos v.start +ℤ pos r *ℤ v.rs +ℤ pos c *ℤ v.cs)
    (diff-add (pos v.start +ℤ pos r *ℤ v.rs) (pos c *ℤ v.cs)
    (diff-add (pos v.start) (pos r *ℤ v.rs) (diff-pos v.start) (diff-steps r v.rs))
    (diff-steps c v.cs))
    (above v r c)
    (below v r c)
    (omega arith)

-- the element is at no index below 0 and at none past the end
pub record PlaceInside (v : View) (len r c : ℕ) : Type 0 where
  pub low : below v r c ≤ above v r c
  pub high : above v r c < len + below v r c

not-outside : (len : ℕ) (z : ℤ) {a b : ℕ} → Diff z a b → outside len z ≡ false → (b ≤ a) × (a < len + b)
not-outside len (pos k) d h = omega (arith, leb-false len k h)
not-outside len (negsuc k) d h = absurd (clash refl h)

inside-in : (len : ℕ) (z : ℤ) {a b : ℕ} → Diff z a b → b ≤ a → a < len + b → outside len z ≡ false
inside-in len (pos k) {a} {b} d p q = lt-leb len k (at k a b d.gap q)
  where
    at : (k a b : ℕ) → a ≡ k + b → a < len + b → k < len
    at k a b e h = omega arith
inside-in len (negsuc k) {a} {b} d p q = absurd (at k a b d.gap p)
  where
    at : (k a b : ℕ) → b ≡ a + suc k → b ≤ a → ⊥
    at k a b e h = omega arith

-- a view fits where none of its elements is outside
pub fits-at : (v : View) (len : ℕ) → Fits v len → (r c : ℕ) → r < v.rows → c < v.cols → outside len (place v r c) ≡ false
unfolding out_of_bounds
fits-at v len h r c p q =
    none-at v.cols (λ c. outside len (place v r c))
    (none-at v.rows (λ r. any v.cols (λ c. outside len (place v r c))) h r p)
    c
    q

pub at-fits : (v : View) (len : ℕ) → ((r c : ℕ) → r < v.rows → c < v.cols → outside len (place v r c) ≡ false) → Fits v len
unfolding out_of_bounds
at-fits v len h =
    none v.rows (λ r. any v.cols (λ c. outside len (place v r c)))
    (λ r p. none v.cols (λ c. outside len (place v r c)) (λ c q. h r c p q))

pub fits→inside : (v : View) (len : ℕ) → Fits v len → (r c : ℕ) → r < v.rows → c < v.cols → PlaceInside v len r c
fits→inside v len h r c p q =
    let w = not-outside len (place v r c) (diff-place v r c) (fits-at v len h r c p q) in
    record { low = w.0; high = w.1 }

pub inside→fits : (v : View) (len : ℕ) → ((r c : ℕ) → r < v.rows → c < v.cols → PlaceInside v len r c) → Fits v len
inside→fits v len h =
    at-fits v len (λ r c p q. inside-in len (place v r c) (diff-place v r c) (h r c p q).low (h r c p q).high)

-- ---- for kernels

pub index_is : (v : View) (len r c : ℕ) → PlaceInside v len r c → index v r c + below v r c ≡ above v r c
unfolding index
index_is v len r c h = diff-abs (place v r c) (diff-place v r c) h.low

pub fits→place : (v : View) (len : ℕ) → Fits v len → (r c : ℕ) → r < v.rows → c < v.cols → place v r c ≡ pos (index v r c)
unfolding index
fits→place v len h r c p q = diff-nat (place v r c) (diff-place v r c) (fits→inside v len h r c p q).low

pub fits→index-lt : (v : View) (len : ℕ) → Fits v len → (r c : ℕ) → r < v.rows → c < v.cols → index v r c < len
fits→index-lt v len h r c p q =
    let i = fits→inside v len h r c p q in
    omega (arith, index_is v len r c i, i.high)
