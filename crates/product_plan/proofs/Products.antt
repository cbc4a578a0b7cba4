-- The product of each plan is the definition's, over any number kind.
use Prim.Native.Nat.{ℕ, ◌+◌}
use mathlib.Core.Bool.{Bool, true, false, cond}
use mathlib.Core.List.{List}
use mathlib.Core.Path.{◌≡◌, refl, ap, ◌∙◌}
use native.Mathlib.Omega.{arith}
use lib.Dec.{leb, ltb}
use borrow.Author.Tests.{leb-true, leb-false, lt-ltb, le-ltb}
use Rattle.number.specs.Kind.{Kind}
use Rattle.view.specs.declared.View.{View}
use Rattle.view.specs.declared.Trans.{Trans}
use Rattle.view.specs.declared.UpLo.{UpLo}
use Rattle.view.specs.declared.UpLo.TheVariants.{Upper, Lower}
use Rattle.view.specs.Place.{transposed_of}
use Rattle.view.specs.Triangle.{in_triangle}
use Rattle.slabs.specs.Elem.{elem}
use Rattle.blas.specs.Matrix.{Matrix, op, sum, dot}
use Rattle.blas.proofs.OpLaws.{transposed-elem, op-elem}
use Rattle.slabs.specs.Run.{elem_conj}
use Rattle.product_plan.specs.Plan.{product, folded_product, folded_term}
use Rattle.product_plan.specs.Plans.{op_plan, left_plan, right_plan}

-- ---- op(A) op(B)

pub op-product : (K : Kind) (ta tb : Trans) (va vb : View) (n : ℕ) (vc : View) (a b : List K.Cell)
    → product K (op_plan ta tb va vb n vc) a b ≡ dot K n (op K ta (elem K a va)) (op K tb (elem K b vb))
op-product K ta tb va vb n vc a b = λ t i j. sum K n (λ p. K.mul (op-elem K a ta va i p t) (op-elem K b tb vb p j t))

-- ---- one operand of which the named triangle is read

-- the matrix whose named triangle is A's: its other elements are mirrored, and conjugated where asked
abbrev pub named : (K : Kind) → Bool → UpLo → Matrix K → Matrix K
named K conj uplo a i j = cond (in_triangle uplo i j) (a i j) (cond conj (K.conj (a j i)) (a j i))

-- the terms below k, or up to k, and the others
at_turn : {A : Type 0} (k p : ℕ) (x y : A) → cond (ltb p k) y x ≡ cond (leb k p) x y
at_turn k p x y = go (leb k p) refl
  where
    go : (b : Bool) → leb k p ≡ b → cond (ltb p k) y x ≡ cond b x y
    go true e = ap (λ (t : Bool). cond t y x) (le-ltb p k (leb-true k p e))
    go false e = ap (λ (t : Bool). cond t y x) (lt-ltb p k (leb-false k p e))

past-turn : {A : Type 0} (k p : ℕ) (x y : A) → cond (ltb p (k + 1)) x y ≡ cond (leb p k) x y
past-turn k p x y = go (leb p k) refl
  where
    go : (b : Bool) → leb p k ≡ b → cond (ltb p (k + 1)) x y ≡ cond b x y
    go true e =
        let h = leb-true p k e in
        ap (λ (t : Bool). cond t x y) (lt-ltb p (k + 1) (omega (arith, h)))
    go false e =
        let h = leb-false p k e in
        ap (λ (t : Bool). cond t x y) (le-ltb p (k + 1) (omega (arith, h)))

module _ (K : Kind) (conj : Bool) (va vb : View) (n : ℕ) (vc : View) (a b : List K.Cell) where
  -- an element's mirror image
  mirrored : (i j : ℕ) → elem_conj K conj a (transposed_of va) i j ≡ cond conj (K.conj (elem K a va j i)) (elem K a va j i)
  mirrored i j = ap (λ x. cond conj (K.conj x) x) (transposed-elem K a va i j)

  by_left : (c : Bool) (x y z : K.Elem) → cond c (K.mul x z) (K.mul y z) ≡ K.mul (cond c x y) z
  by_left true x y z = refl
  by_left false x y z = refl

  by_right : (c : Bool) (x y z : K.Elem) → cond c (K.mul z x) (K.mul z y) ≡ K.mul z (cond c x y)
  by_right true x y z = refl
  by_right false x y z = refl

  left-term : (uplo : UpLo) (i j p : ℕ) → folded_term K (left_plan conj uplo va vb n vc) a b i j p ≡ K.mul (named K conj uplo (elem K a va) i p) (elem K b vb p j)
  left-term Upper i j p =
      at_turn i p _ _ ∙ by_left (leb i p) _ _ _ ∙ ap (λ x. K.mul (cond (leb i p) (elem K a va i p) x) (elem K b vb p j)) (mirrored i p)
  left-term Lower i j p =
      past-turn i p _ _ ∙ by_left (leb p i) _ _ _ ∙ ap (λ x. K.mul (cond (leb p i) (elem K a va i p) x) (elem K b vb p j)) (mirrored i p)

  pub left-product : (uplo : UpLo) → folded_product K (left_plan conj uplo va vb n vc) a b ≡ dot K n (named K conj uplo (elem K a va)) (elem K b vb)
  left-product uplo = λ t i j. sum K n (λ p. left-term uplo i j p t)

  right-term : (uplo : UpLo) (i j p : ℕ) → folded_term K (right_plan conj uplo va vb n vc) b a i j p ≡ K.mul (elem K b vb i p) (named K conj uplo (elem K a va) p j)
  right-term Upper i j p =
      past-turn j p _ _ ∙ by_right (leb p j) _ _ _ ∙ ap (λ x. K.mul (elem K b vb i p) (cond (leb p j) (elem K a va p j) x)) (mirrored p j)
  right-term Lower i j p =
      at_turn j p _ _ ∙ by_right (leb j p) _ _ _ ∙ ap (λ x. K.mul (elem K b vb i p) (cond (leb j p) (elem K a va p j) x)) (mirrored p j)

  pub right-product : (uplo : UpLo) → folded_product K (right_plan conj uplo va vb n vc) b a ≡ dot K n (elem K b vb) (named K conj uplo (elem K a va))
  right-product uplo = λ t i j. sum K n (λ p. right-term uplo i j p t)
