-- An array of sums, each replaced in its turn.
use Prim.Native.Nat.{ℕ, ◌+◌, ◌≤◌, ◌<◌}
use mathlib.Core.List.{List}
use mathlib.Core.Path.{◌≡◌, refl, sym, ap, subst, ◌∙◌}
use native.Mathlib.Decide.{ℕ_discrete}
use native.Mathlib.Omega.{arith}
use lib.ListN.{length, set, length-set}
use lib.Seq.{get_or-set_same, get_or-set_other}
use Rattle.number.specs.Kind.{Kind}
use Rattle.slabs.specs.Eight.{lane, Lanes}

-- the first t of them are f's, and the others are still as given
pub record Part (K : Kind) (n : ℕ) (f : ℕ → K.Elem) (given s : List K.Elem) (t : ℕ) : Type 0 where
  pub count : length s ≡ n
  pub done : (q : ℕ) → q < t → lane K s q ≡ f q
  pub rest : (q : ℕ) → t ≤ q → lane K s q ≡ lane K given q

module _ {n : ℕ} (K : Kind) (f : ℕ → K.Elem) (given : List K.Elem) where
  pub part_start : length given ≡ n → Part K n f given given 0
  part_start e = record { count = e; done = λ q l. absurd (none q l); rest = λ q l. refl }
    where
      none : (q : ℕ) → q < 0 → ⊥
      none q l = omega arith

  pub part_next : (s : List K.Elem) (t : ℕ) (x : K.Elem) → t < n → Part K n f given s t → x ≡ f t → Part K n f given (set s t x) (t + 1)
  part_next s t x l h e =
      record {
        count = length-set s t x ∙ h.count;
        done = λ q m. go q m (ℕ_discrete q t);
        rest = λ q m. get_or-set_other s t q x K.zero (λ d. apart q m d) ∙ h.rest q (omega arith);
      }
    where
      apart : (q : ℕ) → t + 1 ≤ q → q ≡ t → ⊥
      apart q m d = omega arith

      go : (q : ℕ) → q < t + 1 → Dec (q ≡ t) → lane K (set s t x) q ≡ f q
      go q m (yes d) = ap (lane K (set s t x)) d ∙ get_or-set_same s t x K.zero (subst (λ (m : ℕ). t < m) (sym h.count) l) ∙ e ∙ ap f (sym d)
      go q m (no d) = get_or-set_other s t q x K.zero d ∙ h.done q (omega arith)

  pub part_end : (s : List K.Elem) → Part K n f given s n → Lanes K n s f
  part_end s h = record { count = h.count; sum = h.done }

-- what the sums are may be said in another way
pub eight-same : {n : ℕ} (K : Kind) (s : List K.Elem) (f g : ℕ → K.Elem) → Lanes K n s f → ((t : ℕ) → t < n → f t ≡ g t) → Lanes K n s g
eight-same K s f g h e = record { count = h.count; sum = λ t l. h.sum t l ∙ e t l }
