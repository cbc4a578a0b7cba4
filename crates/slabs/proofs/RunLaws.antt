-- A run of terms as a loop meets it: its first and next step, and its end; an element that is its own conjugate.
use Prim.Native.Nat.{ℕ, zero, suc, ◌+◌, ◌-◌, ◌≤◌}
use mathlib.Core.Bool.{Bool, true, false}
use mathlib.Core.List.{List}
use mathlib.Core.Path.{◌≡◌, refl, sym, ap, subst, ◌∙◌}
use native.Mathlib.Numerals.{add-one}
use native.Mathlib.Omega.{arith}
use Rattle.number.specs.Kind.{Kind}
use Rattle.number.specs.Laws.{SelfConjugate}
use Rattle.view.specs.declared.View.{View}
use Rattle.slabs.specs.Elem.{elem}
use Rattle.slabs.specs.Run.{elem_conj, plus_terms}

module _ (K : Kind) (f : ℕ → K.Elem) where
  pub plus-start : (x : K.Elem) (from : ℕ) → x ≡ plus_terms K x f from 0
  unfolding plus_terms
  plus-start x from = refl

  pub plus-next : (x : K.Elem) (from k : ℕ) (y z w : K.Elem) → y ≡ plus_terms K x f from k → z ≡ f (from + k) → w ≡ K.add y z → w ≡ plus_terms K x f from (k + 1)
  unfolding plus_terms
  plus-next x from k y z w h g e = rw add-one (e ∙ (λ i. K.add (h i) (g i)))

  -- a loop that is left at k has added n terms
  pub plus-end : (x y : K.Elem) (from k n : ℕ) → k ≤ n → n ≤ k → y ≡ plus_terms K x f from k → y ≡ plus_terms K x f from n
  plus-end x y from k n h g e =
      let q : k ≡ n = omega arith in
      subst (λ (m : ℕ). y ≡ plus_terms K x f from m) q e

-- ---- a loop over the numbers of the terms, from `from` on: how many there are before term p, and before the next

none : (from : ℕ) → 0 ≡ from - from
none from = omega arith

pub one_more : (from p : ℕ) → from ≤ p → p - from + 1 ≡ p + 1 - from
one_more from p h = omega arith

pub all : (from n p end : ℕ) → end ≡ from + n → p ≤ end → end ≤ p → p - from ≡ n
all from n p end e h g = omega arith

pub there : (from p : ℕ) → from ≤ p → p ≡ from + (p - from)
there from p h = omega arith

module _ (K : Kind) (f : ℕ → K.Elem) (x : K.Elem) (from : ℕ) where
  pub plus-first : x ≡ plus_terms K x f from (from - from)
  plus-first = plus-start K f x from ∙ ap (plus_terms K x f from) (none from)

  pub plus-on : (p : ℕ) (y z w : K.Elem) → from ≤ p → y ≡ plus_terms K x f from (p - from) → z ≡ f p → w ≡ K.add y z → w ≡ plus_terms K x f from (p + 1 - from)
  plus-on p y z w h e g d = plus-next K f x from (p - from) y z w e (g ∙ ap f (there from p h)) d ∙ ap (plus_terms K x f from) (one_more from p h)

  pub plus-done : (n p end : ℕ) (y : K.Elem) → end ≡ from + n → p ≤ end → end ≤ p → y ≡ plus_terms K x f from (p - from) → y ≡ plus_terms K x f from n
  plus-done n p end y c h g e = e ∙ ap (plus_terms K x f from) (all from n p end c h g)

-- one run after another is one
pub run-run : (K : Kind) (f : ℕ → K.Elem) (x : K.Elem) (from m n : ℕ) → plus_terms K (plus_terms K x f from m) f (from + m) n ≡ plus_terms K x f from (m + n)
unfolding plus_terms
run-run K f x from m zero =
    let e : m ≡ m + 0 = omega arith in
    ap (λ (k : ℕ). plus_terms K x f from k) e
run-run K f x from m (suc n) =
    let e : suc (m + n) ≡ m + suc n = omega arith in
    let d : from + m + n ≡ from + (m + n) = omega arith in
    (λ i. K.add (run-run K f x from m n i) (f (d i))) ∙ ap (λ (k : ℕ). plus_terms K x f from k) e

-- of a kind whose numbers are their own conjugates
pub elem-own : (K : Kind) → SelfConjugate K → (c : Bool) (s : List K.Cell) (v : View) (i j : ℕ) → elem K s v i j ≡ elem_conj K c s v i j
elem-own K S true s v i j = sym (S.own (elem K s v i j))
elem-own K S false s v i j = refl
