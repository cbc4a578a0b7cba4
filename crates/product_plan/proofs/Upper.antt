-- A named triangle as an upper one, of A or of its transpose, and A on the right as the transposed call, of numbers that are their own conjugates and whose product commutes.
use Prim.Native.Nat.{ℕ, ◌<◌}
use mathlib.Core.Bool.{Bool, true, false, cond}
use mathlib.Core.List.{List}
use mathlib.Core.Path.{◌≡◌, refl, sym, ap, subst, ◌∙◌}
use native.Mathlib.Omega.{arith}
use lib.Dec.{leb}
use borrow.Author.Tests.{leb-true, leb-false}
use Rattle.number.specs.Kind.{Kind}
use Rattle.number.specs.Laws.{Commutes, SelfConjugate}
use Rattle.view.specs.declared.View.{View}
use Rattle.view.specs.declared.Side.{Side}
use Rattle.view.specs.declared.Side.TheVariants.{Left, Right}
use Rattle.view.specs.declared.UpLo.{UpLo}
use Rattle.view.specs.declared.UpLo.TheVariants.{Upper, Lower}
use Rattle.view.specs.Place.{transposed_of}
use Rattle.view.proofs.TransposeLaws.{transposed-accepted}
use Rattle.slabs.specs.Elem.{elem, Within}
use Rattle.slabs.specs.Update.{everywhere, update}
use Rattle.blas.specs.Matrix.{sum, accumulate}
use Rattle.blas.proofs.OpLaws.{transposed-elem}
use Rattle.product_plan.specs.declared.plan.Folded.{Folded}
use Rattle.product_plan.specs.Plan.{folded_product, across, across_change, AcrossReady}
use Rattle.product_plan.specs.Plans.{left_plan, right_plan, upper_of, is_left, element_plan, sided_work, ReadySided}
use Rattle.product_plan.proofs.Products.{named, left-product, right-product}

-- ---- one triangle for both

-- an element read from either triangle, on the diagonal from both
either : {A : Type 0} (f : ℕ → ℕ → A) (i j : ℕ) → cond (leb i j) (f j i) (f i j) ≡ cond (leb j i) (f i j) (f j i)
either f i j = go (leb i j) (leb j i) refl refl
  where
    neither : j < i → i < j → ⊥
    neither g h = omega arith

    go : (b c : Bool) → leb i j ≡ b → leb j i ≡ c → cond b (f j i) (f i j) ≡ cond c (f i j) (f j i)
    go true true g h =
        let low = leb-true i j g in
        let high = leb-true j i h in
        let e : i ≡ j = omega (arith, low, high) in
        λ t. f (sym e t) (e t)
    go true false g h = refl
    go false true g h = refl
    go false false g h = absurd (neither (leb-false i j g) (leb-false j i h))

module _ (K : Kind) (S : SelfConjugate K) where
  own : (conj : Bool) (x : K.Elem) → x ≡ cond conj (K.conj x) x
  own true x = sym (S.own x)
  own false x = refl

  upper-named : (conj : Bool) (uplo : UpLo) (a : List K.Cell) (va : View) (i j : ℕ)
      → named K false Upper (elem K a (upper_of uplo va)) i j ≡ named K conj uplo (elem K a va) i j
  upper-named conj Upper a va i j = ap (λ x. cond (leb i j) (elem K a va i j) x) (own conj (elem K a va j i))
  upper-named conj Lower a va i j =
      (λ t. cond (leb i j) (transposed-elem K a va i j t) (transposed-elem K a va j i t))
      ∙ either (elem K a va) i j
      ∙ ap (λ x. cond (leb j i) (elem K a va i j) x) (own conj (elem K a va j i))

  module _ (conj : Bool) (uplo : UpLo) (va vb : View) (vc : View) (f h : K.Elem → K.Elem) (a b c : List K.Cell) where
    upper-left : (n : ℕ) → folded_product K (left_plan false Upper (upper_of uplo va) vb n vc) a b ≡ folded_product K (left_plan conj uplo va vb n vc) a b
    upper-left n =
        left-product K false (upper_of uplo va) vb n vc a b Upper
        ∙ (λ t i j. sum K n (λ p. K.mul (upper-named conj uplo a va i p t) (elem K b vb p j)))
        ∙ sym (left-product K conj va vb n vc a b uplo)

    upper-right : (n : ℕ) → folded_product K (right_plan false Upper (upper_of uplo va) vb n vc) b a ≡ folded_product K (right_plan conj uplo va vb n vc) b a
    upper-right n =
        right-product K false (upper_of uplo va) vb n vc a b Upper
        ∙ (λ t i j. sum K n (λ p. K.mul (elem K b vb i p) (upper-named conj uplo a va p j t)))
        ∙ sym (right-product K conj va vb n vc a b uplo)

    upper-work : (side : Side) → sided_work K side false Upper (upper_of uplo va) vb vc f h a b c ≡ sided_work K side conj uplo va vb vc f h a b c
    upper-work Left = λ t. update K vc everywhere (accumulate K f h (upper-left vc.rows t)) c
    upper-work Right = λ t. update K vc everywhere (accumulate K f h (upper-right vc.cols t)) c

    pub upper-done : (side : Side) (u : View) (after : List K.Cell) → u ≡ upper_of uplo va → after ≡ sided_work K side false Upper u vb vc f h a b c
        → after ≡ sided_work K side conj uplo va vb vc f h a b c
    upper-done side u after e q = q ∙ ap (λ v. sided_work K side false Upper v vb vc f h a b c) e ∙ upper-work side

upper-turned : (side : Side) (conj : Bool) (uplo : UpLo) (va vb vc : View) (la lb lc : ℕ) → ReadySided side conj uplo va la vb lb vc lc → ReadySided side false Upper (upper_of uplo va) la vb lb vc lc
upper-turned Left conj Upper va vb vc la lb lc r = (
  record {
    target = r.0.target;
    reads = record {
      head = record { left = r.0.reads.head.left; right = r.0.reads.head.right };
      tail = record { left = r.0.reads.tail.left; right = r.0.reads.tail.right };
      turns = λ i j h g. omega arith;
    };
  },
  record { same = λ i j. refl; room = λ i h. omega arith; head_plain = refl; tail-plain = refl },
)
upper-turned Left conj Lower va vb vc la lb lc r = (
  record {
    target = r.0.target;
    reads = record {
      head = record { left = r.0.reads.head.left; right = r.0.reads.head.right };
      tail = record { left = r.0.reads.tail.left; right = r.0.reads.tail.right };
      turns = λ i j h g. omega arith;
    };
  },
  record { same = λ i j. refl; room = λ i h. omega arith; head_plain = refl; tail-plain = refl },
)
upper-turned Right conj Upper va vb vc la lb lc r =
    record {
      target = r.target;
      reads = record {
        head = record { left = r.reads.head.left; right = r.reads.head.right };
        tail = record { left = r.reads.tail.left; right = r.reads.tail.right };
        turns = λ i j h g. omega arith;
      };
    }
upper-turned Right conj Lower va vb vc la lb lc r =
    record {
      target = r.target;
      reads = record {
        head = record { left = r.reads.head.left; right = r.reads.head.right };
        tail = record { left = r.reads.tail.left; right = r.reads.tail.right };
        turns = λ i j h g. omega arith;
      };
    }

pub upper-ready : (side : Side) (conj : Bool) (uplo : UpLo) (va vb vc : View) (la lb lc : ℕ) (u : View) → u ≡ upper_of uplo va → ReadySided side conj uplo va la vb lb vc lc
    → ReadySided side false Upper u la vb lb vc lc
upper-ready side conj uplo va vb vc la lb lc u e r = subst (λ v. ReadySided side false Upper v la vb lb vc lc) (sym e) (upper-turned side conj uplo va vb vc la lb lc r)

-- ---- B A as the transpose of A B, element by element

module _ (K : Kind) (C : Commutes K) (u vb vc : View) (f h : K.Elem → K.Elem) (a b c : List K.Cell) where
  across-right : (n : ℕ) → across K false (folded_product K (left_plan false Upper u (transposed_of vb) n (transposed_of vc)) a b) ≡ folded_product K (right_plan false Upper u vb n vc) b a
  across-right n =
      (λ t i j. left-product K false u (transposed_of vb) n (transposed_of vc) a b Upper t j i)
      ∙ (λ t i j. sum K n (λ p. swapped i j p t))
      ∙ sym (right-product K false u vb n vc a b Upper)
    where
      swapped : (i j p : ℕ) → K.mul (named K false Upper (elem K a u) j p) (elem K b (transposed_of vb) p i) ≡ K.mul (elem K b vb i p) (named K false Upper (elem K a u) p j)
      swapped i j p =
          C.commutes _ _ ∙ (λ t. K.mul (transposed-elem K b vb p i t) (either (λ x y. elem K a u y x) j p t))

  across-work : (side : Side) → update K vc everywhere (across_change K (is_left side) (element_plan side u vb vc) f h a b) c ≡ sided_work K side false Upper u vb vc f h a b c
  across-work Left = refl
  across-work Right = λ t. update K vc everywhere (accumulate K f h (across-right vc.cols t)) c

  pub across-done : (side : Side) (straight : Bool) (plan : Folded) (after : List K.Cell) → straight ≡ is_left side → plan ≡ element_plan side u vb vc
      → after ≡ update K vc everywhere (across_change K straight plan f h a b) c → after ≡ sided_work K side false Upper u vb vc f h a b c
  across-done side straight plan after es ep q = q ∙ (λ t. update K vc everywhere (across_change K (es t) (ep t) f h a b) c) ∙ across-work side

across-turned : (side : Side) (u vb vc : View) (la lb lc : ℕ) → ReadySided side false Upper u la vb lb vc lc → AcrossReady (is_left side) (element_plan side u vb vc) la lb vc lc
across-turned Left u vb vc la lb lc r = record { target = r.0.target; reads = r.0.reads; row = λ i j h g. h; col = λ i j h g. g }
across-turned Right u vb vc la lb lc r =
    record {
      target = r.target;
      reads = record {
        head = record { left = λ i p h g. r.reads.tail.right i p h g; right = λ p j h g. turned p j (r.reads.head.left j p g h) };
        tail = record { left = λ i p h g. r.reads.head.right i p h g; right = λ p j h g. turned p j (r.reads.head.left j p g h) };
        turns = λ i j h g. omega arith;
      };
      row = λ i j h g. g;
      col = λ i j h g. h;
    }
  where
    turned : (p j : ℕ) → Within vb lb j p → Within (transposed_of vb) lb p j
    turned p j w = record { fits = transposed-accepted vb lb w.fits; row = w.col; col = w.row }

pub across-ready : (side : Side) (u vb vc : View) (la lb lc : ℕ) (straight : Bool) (plan : Folded) → straight ≡ is_left side → plan ≡ element_plan side u vb vc
    → ReadySided side false Upper u la vb lb vc lc → AcrossReady straight plan la lb vc lc
across-ready side u vb vc la lb lc straight plan es ep r =
    subst (λ s. AcrossReady s plan la lb vc lc) (sym es) (subst (λ p. AcrossReady (is_left side) p la lb vc lc) (sym ep) (across-turned side u vb vc la lb lc r))
