-- Sums taken in runs: what a run adds, and that the runs before and after a turn are the whole sum.
use Prim.Native.Nat.{ℕ, zero, suc, ◌+◌, ◌≤◌, ◌<◌, ◌-◌}
use mathlib.Core.Bool.{Bool, cond}
use mathlib.Core.List.{List}
use mathlib.Core.Path.{◌≡◌, refl, sym, ap, ◌∙◌}
use native.Mathlib.Omega.{arith}
use lib.Dec.{ltb}
use borrow.Author.Tests.{lt-ltb, le-ltb}
use Rattle.number.specs.Kind.{Kind}
use Rattle.number.specs.Laws.{SelfConjugate}
use Rattle.slabs.specs.Elem.{elem}
use Rattle.blas.specs.Matrix.{sum}
use Rattle.blas.proofs.SumLaws.{sum-next}
use Rattle.product_plan.specs.declared.plan.Factors.{Factors}
use Rattle.product_plan.specs.declared.plan.Folded.{Folded}
use Rattle.slabs.proofs.RunLaws.{elem-own, plus-first, plus-on}
use Rattle.slabs.specs.Run.{elem_conj, plus_terms}
use Rattle.product_plan.specs.Plan.{term, terms_before, folded_term, folded_product}

-- ---- a loop that adds terms from `from` on, at p

module _ (K : Kind) (f : ℕ → K.Elem) where
  pub plus-start : (x : K.Elem) (from : ℕ) → x ≡ plus_terms K x f from (from - from)
  plus-start x from = plus-first K f x from

  -- terms added to a sum are a longer sum
  more-sum : (from n : ℕ) → plus_terms K (sum K from f) f from n ≡ sum K (from + n) f
  unfolding plus_terms sum
  more-sum from zero =
      let e : from ≡ from + 0 = omega arith in
      ap (λ (m : ℕ). sum K m f) e
  more-sum from (suc n) =
      let e : suc (from + n) ≡ from + suc n = omega arith in
      ap (λ z. K.add z (f (from + n))) (more-sum from n) ∙ ap (λ (m : ℕ). sum K m f) e

  -- a run from 0 on is the sum
  pub sum-whole : (x y : K.Elem) (n : ℕ) → x ≡ K.zero → y ≡ plus_terms K x f 0 (n - 0) → y ≡ sum K n f
  unfolding sum
  sum-whole x y n e h =
      let q : 0 + (n - 0) ≡ n = omega arith in
      h ∙ ap (λ z. plus_terms K z f 0 (n - 0)) e ∙ more-sum 0 (n - 0) ∙ ap (λ (m : ℕ). sum K m f) q

-- one term more: acc is what has been added so far, u and v are the next factors
module _ (K : Kind) (f : Factors) (a b : List K.Cell) (i j : ℕ) (x : K.Elem) (from p : ℕ) (acc u v m next : K.Elem) where
  pub term-next : from ≤ p → acc ≡ plus_terms K x (term K f a b i j) from (p - from) → u ≡ elem_conj K f.left_conj a f.left i p → v ≡ elem_conj K f.right_conj b f.right p j
      → m ≡ K.mul u v → next ≡ K.add acc m → next ≡ plus_terms K x (term K f a b i j) from (p + 1 - from)
  term-next h e eu ev em en = plus-on K (term K f a b i j) x from p acc m next h e (em ∙ (λ s. K.mul (eu s) (ev s))) en

-- the same of a sum from its first term on, of numbers that are their own conjugates
pub real-sum-next : (K : Kind) → SelfConjugate K → (f : Factors) (a b : List K.Cell) (i j p : ℕ) (acc u v m next : K.Elem) → acc ≡ sum K p (term K f a b i j)
    → u ≡ elem K a f.left i p → v ≡ elem K b f.right p j → m ≡ K.mul u v → next ≡ K.add acc m
    → next ≡ sum K (p + 1) (term K f a b i j)
real-sum-next K S f a b i j p acc u v m next e eu ev em en =
    sum-next K (term K f a b i j) p acc m next e
    (em ∙ (λ t. K.mul ((eu ∙ elem-own K S f.left_conj a f.left i p) t) ((ev ∙ elem-own K S f.right_conj b f.right p j) t)))
    en

-- ---- the terms before a turn and those after it

more_same : (K : Kind) (f g : ℕ → K.Elem) (x : K.Elem) (from n : ℕ) → ((q : ℕ) → q < n → f (from + q) ≡ g (from + q))
    → plus_terms K x f from n ≡ plus_terms K x g from n
unfolding plus_terms
more_same K f g x from zero h = refl
more_same K f g x from (suc n) h =
    λ t. K.add (more_same K f g x from n (λ q l. h q (omega arith)) t) (h n (omega arith) t)

module _ (K : Kind) (f g : ℕ → K.Elem) (k n : ℕ) where
  abbrev both : ℕ → K.Elem
  both p = cond (ltb p k) (f p) (g p)

  -- those before `from`, from there to `end`, among which it turns, and the rest
  sum-thirds : (from end : ℕ) (zero' x y z : K.Elem) → from ≤ k → k ≤ end → end ≤ n → zero' ≡ K.zero
      → x ≡ plus_terms K zero' f 0 (from - 0) → y ≡ plus_terms K x both from (end - from) → z ≡ plus_terms K y g end (n - end) → z ≡ sum K n both
  sum-thirds from end zero' x y z l r h e ex ey ez =
      let q : from + (end - from) ≡ end = omega arith in
      let w : end + (n - end) ≡ n = omega arith in
      ez
      ∙ more_same K g both y end (n - end) (λ p m. ap (λ (b : Bool). cond b (f (end + p)) (g (end + p))) (sym (le-ltb (end + p) k (omega arith))))
      ∙ ap (λ u. plus_terms K u both end (n - end))
      (ey ∙ ap (λ u. plus_terms K u both from (end - from)) (sum-whole K both zero' x from e (ex ∙ more_same K f both zero' 0 (from - 0) (λ p m. before (0 + p) (omega arith))))
      ∙ more-sum K both from (end - from)
      ∙ ap (λ (m : ℕ). sum K m both) q)
      ∙ more-sum K both end (n - end)
      ∙ ap (λ (m : ℕ). sum K m both) w
    where
      before : (p : ℕ) → p < k → f p ≡ both p
      before p m = ap (λ (b : Bool). cond b (f p) (g p)) (sym (lt-ltb p k m))

module _ (K : Kind) (plan : Folded) (a b : List K.Cell) (i j k : ℕ) (zero' x : K.Elem) where
  pub folded-thirds : (l : ℕ) (y z : K.Elem) → k ≤ terms_before plan.turn i j → terms_before plan.turn i j ≤ l → l ≤ plan.terms → zero' ≡ K.zero
      → x ≡ plus_terms K zero' (term K plan.head a b i j) 0 (k - 0) → y ≡ plus_terms K x (folded_term K plan a b i j) k (l - k)
      → z ≡ plus_terms K y (term K plan.tail a b i j) l (plan.terms - l) → z ≡ folded_product K plan a b i j
  folded-thirds l y z = sum-thirds K (term K plan.head a b i j) (term K plan.tail a b i j) (terms_before plan.turn i j) plan.terms k l zero' x y z

  -- nothing between
  pub folded-sum : (y : K.Elem) → k ≡ terms_before plan.turn i j → k ≤ plan.terms → zero' ≡ K.zero
      → x ≡ plus_terms K zero' (term K plan.head a b i j) 0 (k - 0) → y ≡ plus_terms K x (term K plan.tail a b i j) k (plan.terms - k) → y ≡ folded_product K plan a b i j
  folded-sum y ek h e ex ey = folded-thirds k x y (omega (arith, ek)) (omega (arith, ek)) h e ex (plus-start K (folded_term K plan a b i j) x k) ey
