-- A run of n terms as a loop over their numbers meets it, from `from` to before its end: its first step, its next one, and its end; w runs side
-- by side, each with terms and a number of its own.
use Prim.Native.Nat.{ℕ, ◌+◌, ◌-◌, ◌≤◌}
use mathlib.Core.List.{List}
use lib.ListN.{length}
use mathlib.Core.Path.{◌≡◌, ap, sym, ◌∙◌}
use native.Mathlib.Omega.{arith}
use Rattle.number.specs.Kind.{Kind}
use Rattle.slabs.specs.Eight.{lane, Lanes}
use Rattle.slabs.specs.Run.{plus_terms}
use Rattle.slabs.proofs.RunLaws.{one_more, there, plus-first, plus-on}
use Rattle.blas.specs.Substitution.{minus_terms}
use Rattle.blas.proofs.SubstitutionLaws.{minus-start, minus-next}

module _ (K : Kind) (f : ℕ → K.Elem) (x : K.Elem) (from : ℕ) where
  pub minus-first : x ≡ minus_terms K x f from (from - from)
  minus-first =
      let none : 0 ≡ from - from = omega arith in
      sym (minus-start K x f from) ∙ ap (minus_terms K x f from) none

  pub minus-on : (p : ℕ) (y z w : K.Elem) → from ≤ p → y ≡ minus_terms K x f from (p - from) → z ≡ f p → w ≡ K.sub y z → w ≡ minus_terms K x f from (p + 1 - from)
  minus-on p y z w h e g d = minus-next K x f from (p - from) y z w e (g ∙ ap f (there from p h)) d ∙ ap (minus_terms K x f from) (one_more from p h)

-- numbers side by side, each worked out from its own
pub lanes_then : {w : ℕ} (K : Kind) (h : K.Elem → K.Elem) (f : ℕ → K.Elem) (xs ys : List K.Elem) → Lanes K w xs f → Lanes K w ys (λ t. h (lane K xs t)) → Lanes K w ys (λ t. h (f t))
lanes_then K h f xs ys e d = record { count = d.count; sum = λ t g. d.sum t g ∙ ap h (e.sum t g) }

module _ (K : Kind) (w : ℕ) (f : ℕ → ℕ → K.Elem) (from : ℕ) (xs : List K.Elem) where
  abbrev less : ℕ → ℕ → K.Elem
  less n t = minus_terms K (lane K xs t) (f t) from n

  abbrev more : ℕ → ℕ → K.Elem
  more n t = plus_terms K (lane K xs t) (f t) from n

  pub less_first : length xs ≡ w → Lanes K w xs (less (from - from))
  less_first many = record { count = many; sum = λ t g. minus-first K (f t) (lane K xs t) from }

  pub more_first : length xs ≡ w → Lanes K w xs (more (from - from))
  more_first many = record { count = many; sum = λ t g. plus-first K (f t) (lane K xs t) from }

  module _ (p : ℕ) (ys zs : List K.Elem) (term : ℕ → K.Elem) (h : from ≤ p) (read : (t : ℕ) → term t ≡ f t p) where
    pub less_on : Lanes K w ys (less (p - from)) → Lanes K w zs (λ t. K.sub (lane K ys t) (term t)) → Lanes K w zs (less (p + 1 - from))
    less_on e d = record { count = d.count; sum = λ t g. minus-on K (f t) (lane K xs t) from p (lane K ys t) (term t) (lane K zs t) h (e.sum t g) (read t) (d.sum t g) }

    pub more_on : Lanes K w ys (more (p - from)) → Lanes K w zs (λ t. K.add (lane K ys t) (term t)) → Lanes K w zs (more (p + 1 - from))
    more_on e d = record { count = d.count; sum = λ t g. plus-on K (f t) (lane K xs t) from p (lane K ys t) (term t) (lane K zs t) h (e.sum t g) (read t) (d.sum t g) }

  module _ (n p : ℕ) (ys : List K.Elem) (counted : p ≡ from + n) where
    all : p - from ≡ n
    all = omega arith

    pub less_done : Lanes K w ys (less (p - from)) → Lanes K w ys (less n)
    less_done e = record { count = e.count; sum = λ t g. e.sum t g ∙ ap (λ (m : ℕ). less m t) all }

    pub more_done : Lanes K w ys (more (p - from)) → Lanes K w ys (more n)
    more_done e = record { count = e.count; sum = λ t g. e.sum t g ∙ ap (λ (m : ℕ). more m t) all }
