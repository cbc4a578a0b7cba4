-- Reading and replacing an element of a slab, for the real kinds and for complex numbers.
use Prim.Native.Nat.{ℕ, zero, suc, ◌+◌, ◌*◌, ◌/◌, ◌<◌}
use mathlib.Core.Bool.{Bool}
use mathlib.Core.List.{List, [], ◌∷◌}
use mathlib.Core.Path.{◌≡◌, refl, sym, ap, ◌∙◌}
use native.Mathlib.Decide.{ℕ_discrete, dec_lt}
use native.Mathlib.Omega.{arith}
use lib.Dec.{T}
use lib.Ieee.{Float, Format, binary64, nan, fits}
use lib.Ieee.Fits.{nan-fits}
use lib.ListN.{length, get_or, set, length-set, get_or-eq_default}
use lib.Seq.{get_or-set_same, get_or-set_other}
use Rattle.number.specs.Kind.{real, real64, complex, same_float, Same, Holds}
use Rattle.number.specs.Laws.{SlabLaws, Swaps, Held, SameSlab}
use Rattle.number.specs.declared.Complex.{Complex}
use Rattle.number.proofs.Negation.{same_float-refl}
use Rattle.number.proofs.Parts.{equal, same, same-re, same-im, holds, holds-re, holds-im}

-- ---- two lists of one length whose cells stand in a relation, place by place; that all cells of one list are held is the case of a list and itself

module _ {A : Type 0} (R : A → A → Bool) where
  abbrev Cells : List A → List A → Type 0
  Cells s t = (i : ℕ) (d : A) → i < length s → T (R (get_or s i d) (get_or t i d))

  cells_at : (s t : List A) → length s ≡ length t → Cells s t → (d : A) → T (R d d) → (k : ℕ) → T (R (get_or s k d) (get_or t k d))
  cells_at s t e h d r k = go (dec_lt k (length s))
    where
      go : Dec (k < length s) → T (R (get_or s k d) (get_or t k d))
      go (yes l) = h k d l
      go (no l) =
          rw (get_or-eq_default s d {n = k} (omega arith), get_or-eq_default t d {n = k} (omega arith)) r

  cells-set : (s t : List A) → length s ≡ length t → Cells s t → (k : ℕ) (x y : A) → T (R x y) → Cells (set s k x) (set t k y)
  cells-set s t e h k x y r i d l = go (ℕ_discrete i k)
    where
      inside : i < length s
      inside = omega (arith, length-set s k x)

      go : Dec (i ≡ k) → T (R (get_or (set s k x) i d) (get_or (set t k y) i d))
      go (yes p) = rw (p, get_or-set_same s k x d (omega (arith, inside)), get_or-set_same t k y d (omega (arith, inside))) r
      go (no q) = rw (get_or-set_other s k i x d q, get_or-set_other t k i y d q) (h i d inside)

-- ---- the real kinds: an element is a cell

pub real-slab : (f : Format) → SlabLaws (real f)
real-slab f =
    record {
      length-put = λ s k x. length-set s k x;
      count-put = λ s k x. length-set s k x;
      at-put = λ s k x h. get_or-set_same s k x nan h;
      at-put-other = λ s k j x h. get_or-set_other s k j x nan h;
      cell-put-below = λ s k i x d h. get_or-set_other s k i x d (omega arith);
      cell-put-above = λ s k i x d h. get_or-set_other s k i x d (omega arith);
      at-holds = λ s k h. record { holds = cells_at held s s refl h.cell nan (nan-fits f) k };
      put_holds = λ s k x h r. record { cell = cells-set held s s refl h.cell k x x r.holds };
      slab-refl = λ s. record { size = refl; cell = λ i d h. same_float-refl (get_or s i d) };
      at_same = λ {s} {t} k h. record { same = cells_at same_float s t h.size h.cell nan (same_float-refl nan) k };
      put_same = λ {s} {t} {x} {y} k h r. record {
        size = length-set s k x ∙ h.size ∙ sym (length-set t k y);
        cell = cells-set same_float s t h.size h.cell k x y r.same;
      };
    }
  where
    held : Float → Float → Bool
    held x y = fits f x

-- ---- complex numbers: element k is on cells 2k and 2k + 1, so what is said of it is said of two elements of the real slab

L : SlabLaws real64
L = real-slab binary64

real-held : {s : List Float} → Held complex s → Held real64 s
real-held h = record { cell = h.cell }

real_same : {s t : List Float} → SameSlab complex s t → SameSlab real64 s t
real_same h = record { size = h.size; cell = h.cell }

module _ (s : List Float) (k : ℕ) (x : Complex) where
  half : List Float
  half = set s (2 * k) x.re

  length-put : length (complex.put s k x) ≡ length s
  unfolding half
  length-put = L.length-put half (2 * k + 1) x.im ∙ L.length-put s (2 * k) x.re

  -- a cell that is neither of the two
  cell-put : (i : ℕ) (d : Float) → (i ≡ 2 * k → ⊥) → (i ≡ 2 * k + 1 → ⊥) → get_or (complex.put s k x) i d ≡ get_or s i d
  unfolding half
  cell-put i d p q = get_or-set_other half (2 * k + 1) i x.im d q ∙ get_or-set_other s (2 * k) i x.re d p

  at-put : k < length s / 2 → complex.at (complex.put s k x) k ≡ x
  unfolding half
  at-put h =
      equal
      (get_or-set_other half (2 * k + 1) (2 * k) x.im nan (omega arith) ∙ get_or-set_same s (2 * k) x.re nan (omega arith))
      (get_or-set_same half (2 * k + 1) x.im nan (omega (arith, length-set s (2 * k) x.re)))

  at-put-other : (j : ℕ) → (j ≡ k → ⊥) → complex.at (complex.put s k x) j ≡ complex.at s j
  at-put-other j h =
      equal
      (cell-put (2 * j) nan (λ e. h (omega arith)) (omega arith))
      (cell-put (2 * j + 1) nan (omega arith) (λ e. h (omega arith)))

pub complex-slab : SlabLaws complex
complex-slab =
    record {
      length-put = length-put;
      count-put = λ s k x. ap (λ (n : ℕ). n / 2) (length-put s k x);
      at-put = at-put;
      at-put-other = λ s k j x h. at-put-other s k x j h;
      cell-put-below = λ s k i x d h. cell-put s k x i d (omega arith) (omega arith);
      cell-put-above = λ s k i x d h. cell-put s k x i d (omega arith) (omega arith);
      at-holds = λ s k h. holds (L.at-holds s (2 * k) (real-held h)) (L.at-holds s (2 * k + 1) (real-held h));
      put_holds = λ s k x h r. record { cell = (put_holds s k x h r).cell };
      slab-refl = λ s. record { size = refl; cell = (L.slab-refl s).cell };
      at_same = λ {s} {t} k h. same (L.at_same (2 * k) (real_same h)) (L.at_same (2 * k + 1) (real_same h));
      put_same = λ {s} {t} {x} {y} k h r. record { size = (put_same k h r).size; cell = (put_same k h r).cell };
    }
  where
    put_holds : (s : List Float) (k : ℕ) (x : Complex) → Held complex s → Holds complex x → Held real64 (complex.put s k x)
    put_holds s k x h r =
        L.put_holds (set s (2 * k) x.re) (2 * k + 1) x.im (L.put_holds s (2 * k) x.re (real-held h) (holds-re r)) (holds-im r)

    put_same : {s t : List Float} {x y : Complex} (k : ℕ) → SameSlab complex s t → Same complex x y
        → SameSlab real64 (complex.put s k x) (complex.put t k y)
    put_same k h r = L.put_same (2 * k + 1) (L.put_same (2 * k) (real_same h) (same-re r)) (same-im r)

-- ---- replacing two elements, in either order

pub set-swap : {A : Type 0} (s : List A) (k j : ℕ) (x y : A) → (j ≡ k → ⊥) → set (set s k x) j y ≡ set (set s j y) k x
set-swap [] k j x y h = refl
set-swap (z ∷ s) zero zero x y h = absurd (h refl)
set-swap (z ∷ s) zero (suc j) x y h = refl
set-swap (z ∷ s) (suc k) zero x y h = refl
set-swap (z ∷ s) (suc k) (suc j) x y h = ap (λ (r : List _). z ∷ r) (set-swap s k j x y (λ e. h (ap suc e)))

pub real-swaps : (f : Format) → Swaps (real f)
real-swaps f = record { swap = λ s k j x y h. set-swap s k j x y h }

-- four swaps, of each part with each
pub complex-swaps : Swaps complex
complex-swaps = record {
  swap = λ s k j x y h.
      ap (λ (r : List Float). set r (2 * j + 1) y.im) (
      set-swap (set s (2 * k) x.re) (2 * k + 1) (2 * j) x.im y.re (λ e. omega arith)
      ∙ ap (λ (r : List Float). set r (2 * k + 1) x.im) (set-swap s (2 * k) (2 * j) x.re y.re (λ e. h (half j k e)))
      )
      ∙ set-swap (set (set s (2 * j) y.re) (2 * k) x.re) (2 * k + 1) (2 * j + 1) x.im y.im (λ e. h (half' j k e))
      ∙ ap (λ (r : List Float). set r (2 * k + 1) x.im) (set-swap (set s (2 * j) y.re) (2 * k) (2 * j + 1) x.re y.im (λ e. omega arith));
}
  where
    half : (j k : ℕ) → 2 * j ≡ 2 * k → j ≡ k
    half j k e = omega arith

    half' : (j k : ℕ) → 2 * j + 1 ≡ 2 * k + 1 → j ≡ k
    half' j k e = omega arith
