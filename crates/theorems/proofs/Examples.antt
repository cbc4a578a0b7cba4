-- The theorems on given slabs, each condition met by computing it. Exactness: four calls of whole numbers, with NaN wherever nothing is read. Agreement:
-- symm with Lower sees nothing above the diagonal, not even a NaN; gemv sees every element; trsv with Lower and Unit sees what is below the diagonal alone.
use Prim.Native.Nat.{ℕ, zero, suc, ◌+◌, ◌*◌, ◌<◌}
use mathlib.Core.Bool.{Bool, true, false, not, true≢false, ◌&&◌}
use mathlib.Core.List.{List, [], ◌∷◌}
use mathlib.Core.Path.{◌≡◌, refl, sym, subst, ap, ◌∙◌}
use native.Mathlib.Omega.{arith}
use lib.Dec.{T, leb, lit≤}
use lib.Ieee.{Float, binary64, nan, fin, fits, eq, is_nan}
use lib.IntN.{ℤ, pos, negsuc}
use lib.ListN.{length, get_or}
use borrow.Author.Tests.{leb-true, not-false}
use Rattle.number.specs.Kind.{Kind, Same, real64, complex, finite_float}
use Rattle.number.specs.Integers.{Gaussian, integers, float_of_integer, complex_of_gaussian}
use Rattle.number.specs.declared.Complex.{Complex}
use Rattle.theorems.proofs.Words.{View, NoTrans, Transposed, ConjTrans, Upper, Lower, Unit, Left}
use Rattle.view.specs.Any.{any}
use Rattle.view.specs.Place.{place, index}
use Rattle.view.specs.Refusals.{too_large, out_of_bounds, overlaps, is_vector, vec_length}
use Rattle.view.specs.Judge.{judge}
use Rattle.view.specs.Checks.{symm_shape, trmm_shape, vector_of, gemv_shape, syrk_shape, syr2k_shape}
use Rattle.view.specs.Triangle.{in_triangle}
use Rattle.view.specs.Vector.{vec_stride, column_of}
use Rattle.view.proofs.AnyLaws.{none-at, and_left, and_right}
use Rattle.slabs.specs.Elem.{Lent, lent, elem}
use Rattle.slabs.specs.Update.{Mask, everywhere}
use Rattle.blas.specs.Matrix.{Matrix, matrix, vector, sum}
use Rattle.blas.specs.Outcome.{Outcome}
use Rattle.blas.specs.Symm.{symm}
use Rattle.blas.specs.Gemv.{gemv}
use Rattle.blas.specs.Her2k.{her2k}
use Rattle.blas.specs.Trmm.{trmm}
use Rattle.blas.specs.Trsv.{trsv}
use Rattle.theorems.specs.Exactness.{Wholes, Whole, Shows, ShowsVector, largest_part, largest_scalar_part, real_wholes, complex_wholes}
use Rattle.theorems.specs.Agreement.{Alike, Others, run, triangle, whole_matrix, General, Square, Coefficient, Agree}
use Rattle.theorems.specs.TriangularAgreement.{named, Single, run_plain}
use Rattle.theorems.proofs.ExactInstances.{real64-products-exact, complex-products-exact, complex-rank-exact, real64-triangles-exact}
use Rattle.theorems.proofs.AgreeKinds.{real64-products-see, real64-triangles-see}

-- ---- the conditions as tests

-- some named element fails
abbrev fails : Mask → View → (ℕ → ℕ → Bool) → Bool
fails names v test = any v.rows (λ i. any v.cols (λ j. names i j && not (test i j)))

passes : (names : Mask) (v : View) (test : ℕ → ℕ → Bool) → fails names v test ≡ false → (i j : ℕ) → i < v.rows → j < v.cols → names i j ≡ true
    → test i j ≡ true
passes names v test h i j p q u =
    not-false (test i j) (sym (ap (λ (b : Bool). b && not (test i j)) u) ∙ none-at v.cols _ (none-at v.rows _ h i p) j q)

holds : {b : Bool} → b ≡ true → T b
holds e = subst T (sym e) tt

module _ {K Z : Kind} (W : Wholes K Z) where
  -- x is z as a number, with no part larger than m
  abbrev is_whole : ℕ → K.Elem → Z.Elem → Bool
  is_whole m x z = K.same x (W.number z) && leb (W.magnitude z) m

  pub whole_by : (m : ℕ) (x : K.Elem) (z : Z.Elem) → is_whole m x z ≡ true → Whole W m x z
  whole_by m x z e = record {
    same = record { same = holds (and_left (K.same x (W.number z)) _ e) };
    small = leb-true (W.magnitude z) m (and_right (K.same x (W.number z)) _ e);
  }

  pub shows-by : (named : Mask) (a : Lent K) (z : Matrix Z) → fails named a.view (λ i j. is_whole largest_part (matrix K a i j) (z i j)) ≡ false
      → Shows W named a z
  shows-by named a z h =
      let test : ℕ → ℕ → Bool = λ i j. is_whole largest_part (matrix K a i j) (z i j) in
      record { shown = λ i j p q u. whole_by largest_part (matrix K a i j) (z i j) (passes named a.view test h i j p q u) }

  pub shows-vector-by : (x : Lent K) (z : ℕ → Z.Elem) → any (vec_length x.view) (λ i. not (is_whole largest_part (vector K x i 0) (z i))) ≡ false
      → ShowsVector W x z
  shows-vector-by x z h = record { shown = λ i p. whole_by largest_part (vector K x i 0) (z i) (not-false _ (none-at (vec_length x.view) _ h i p)) }

-- slabs whose numbers are all f64
abbrev all_fit : List Float → Bool
all_fit [] = true
all_fit (x ∷ s) = fits binary64 x && all_fit s

held-cells : (s : List Float) → all_fit s ≡ true → (i : ℕ) (d : Float) → i < length s → T (fits binary64 (get_or s i d))
held-cells [] h i d p = absurd (none i p)
  where
    none : (i : ℕ) → i < 0 → ⊥
    none i p = omega arith
held-cells (x ∷ s) h zero d p = holds (and_left (fits binary64 x) (all_fit s) h)
held-cells (x ∷ s) h (suc i) d p = held-cells s (and_right (fits binary64 x) (all_fit s) h) i d (omega arith)

pub coefficient-by : (Form : View → Type 0) (names : Mask) (a : Lent real64) → Form a.view → too_large a.view ≡ false
    → out_of_bounds a.view (length a.slab) ≡ false
    → all_fit a.slab ≡ true → fails names a.view (λ i j. finite_float (matrix real64 a i j)) ≡ false → Coefficient real64 Form names a
coefficient-by Form names a form l o h f = record {
  accepted = record { form = form; not-too-large = l; not-out-of-bounds = o };
  numbers = record { cell = held-cells a.slab h };
  finite = λ i j n. record { finite = holds (passes names a.view (λ i j. finite_float (matrix real64 a i j)) f i j n.row n.col n.named) };
}

pub agree-by : (names : Mask) (a a' : Lent real64)
    → fails names a.view (λ i j. real64.same (matrix real64 a i j) (matrix real64 a' i j)) ≡ false → Agree real64 names a a'
agree-by names a a' h =
    let test : ℕ → ℕ → Bool = λ i j. real64.same (matrix real64 a i j) (matrix real64 a' i j) in
    record { same = λ i j n. record { same = holds (passes names a.view test h i j n.row n.col n.named) } }

-- a matrix by its rows, one after the other
abbrev rows_of : {A : Type 0} → A → ℕ → List A → ℕ → ℕ → A
rows_of none cols s i j = get_or s (cols * i + j) none

abbrev lent_rows : ℕ → ℕ → List Float → Lent real64
lent_rows m n s = lent real64 s (record { start = 0; rows = m; cols = n; rs = pos n; cs = pos 1 })

-- ---- symm Left Lower on f64, alpha 2, beta 0: the other triangle of A and the old C are NaN

abbrev float : ℕ → Float
float n = float_of_integer (pos n)

abbrev a : Lent real64
a = lent_rows 2 2 (float 1 ∷ nan ∷ float 2 ∷ float 3 ∷ [])

abbrev b : Lent real64
b = lent_rows 2 1 (float 5 ∷ float 7 ∷ [])

abbrev c : Lent real64
c = lent real64 (nan ∷ nan ∷ []) (record { start = 1; rows = 2; cols = 1; rs = negsuc 0; cs = pos 1 })

abbrev za : Matrix integers
za = rows_of (pos 0) 2 (pos 1 ∷ pos 0 ∷ pos 2 ∷ pos 3 ∷ [])

abbrev zb : Matrix integers
zb = rows_of (pos 0) 1 (pos 5 ∷ pos 7 ∷ [])

abbrev multiplied : Outcome real64
multiplied = symm real64 Left Lower (float 2) a b (float 0) c

-- 2 (1·5 + 2·7) and 2 (2·5 + 3·7)
pub multiplied-exact : Same real64 (elem real64 multiplied.slab c.view 0 0) (float 38) × Same real64 (elem real64 multiplied.slab c.view 1 0) (float 62)
unfolding symm symm_shape trmm_shape judge too_large out_of_bounds overlaps any place index sum eq is_nan
multiplied-exact =
    let l =
    real64-products-exact.symm Left Lower (float 2) a b (float 0) c (pos 2) za zb (pos 0) (λ i j. pos 0)
    (whole_by real_wholes largest_scalar_part (float 2) (pos 2) refl)
    (shows-by real_wholes (in_triangle Lower) a za refl)
    (shows-by real_wholes everywhere b zb refl)
    (whole_by real_wholes largest_scalar_part (float 0) (pos 0) refl)
    (λ e. absurd (true≢false e))
    refl
    in
    (l.left 0 0 (lit≤ tt) (lit≤ tt) refl, l.left 1 0 (lit≤ tt) (lit≤ tt) refl)

-- ---- gemv ConjTrans on complex, alpha i, beta 1

abbrev number : ℤ → ℤ → Complex
number x y = complex_of_gaussian (record { re = x; im = y })

abbrev whole : ℤ → ℤ → Gaussian
whole x y = record { re = x; im = y }

abbrev one : View
one = record { start = 0; rows = 1; cols = 1; rs = pos 1; cs = pos 1 }

abbrev shown : ℤ → ℤ → Lent complex
shown x y = lent complex (float_of_integer x ∷ float_of_integer y ∷ []) one

abbrev turned : Outcome complex
turned = gemv complex ConjTrans (number (pos 0) (pos 1)) (shown (pos 1) (pos 2)) (shown (pos 3) (pos 0)) (number (pos 1) (pos 0)) (shown (pos 5) (pos 5))

-- i (1 − 2i) 3 + (5 + 5i)
pub turned-exact : Same complex (elem complex turned.slab (column_of one) 0 0) (number (pos 11) (pos 8))
unfolding gemv gemv_shape vector_of is_vector judge too_large out_of_bounds overlaps any place index vec_stride sum eq is_nan
turned-exact =
    (complex-products-exact.gemv ConjTrans (number (pos 0) (pos 1)) (shown (pos 1) (pos 2)) (shown (pos 3) (pos 0)) (number (pos 1) (pos 0)) (shown (pos 5) (pos 5))
    (whole (pos 0) (pos 1)) (λ i j. whole (pos 1) (pos 2)) (λ i. whole (pos 3) (pos 0)) (whole (pos 1) (pos 0)) (λ i. whole (pos 5) (pos 5))
    (whole_by complex_wholes largest_scalar_part _ _ refl)
    (shows-by complex_wholes everywhere (shown (pos 1) (pos 2)) _ refl)
    (shows-vector-by complex_wholes (shown (pos 3) (pos 0)) _ refl)
    (whole_by complex_wholes largest_scalar_part _ _ refl)
    (λ e. shows-vector-by complex_wholes (shown (pos 5) (pos 5)) _ refl)
    refl
    ).left 0 0 (lit≤ tt) (lit≤ tt) refl

-- ---- her2k Upper NoTrans on complex, alpha i, beta 0: the old C is NaN

abbrev unread : Lent complex
unread = lent complex (nan ∷ nan ∷ []) one

abbrev updated : Outcome complex
updated = her2k complex Upper NoTrans (number (pos 0) (pos 1)) (shown (pos 1) (pos 2)) (shown (pos 3) (pos 0)) (float 0) unread

-- i (1 + 2i) 3 − i 3 (1 − 2i)
pub updated-exact : Same complex (elem complex updated.slab one 0 0) (number (negsuc 11) (pos 0))
unfolding her2k syr2k_shape syrk_shape judge too_large out_of_bounds overlaps any place index sum eq is_nan
updated-exact =
    (complex-rank-exact.her2k Upper NoTrans _ (shown (pos 1) (pos 2)) (shown (pos 3) (pos 0)) (float 0) unread
    (whole (pos 0) (pos 1)) (λ i j. whole (pos 1) (pos 2)) (λ i j. whole (pos 3) (pos 0)) (pos 0) (λ i j. whole (pos 0) (pos 0))
    (whole_by complex_wholes largest_scalar_part _ _ refl)
    (shows-by complex_wholes everywhere (shown (pos 1) (pos 2)) _ refl)
    (shows-by complex_wholes everywhere (shown (pos 3) (pos 0)) _ refl)
    (record { same = record { same = tt }; small = lit≤ tt })
    (λ e. absurd (true≢false e))
    refl
    ).left 0 0 (lit≤ tt) (lit≤ tt) refl

-- ---- trmm Left Lower Trans Unit on f64, alpha 2: the diagonal and the other triangle of A are NaN

abbrev t : Lent real64
t = lent_rows 2 2 (nan ∷ nan ∷ float 3 ∷ nan ∷ [])

abbrev zt : Matrix integers
zt = rows_of (pos 0) 2 (pos 0 ∷ pos 0 ∷ pos 3 ∷ pos 0 ∷ [])

abbrev triangled : Outcome real64
triangled = trmm real64 Left Lower Transposed Unit (float 2) t b

-- 2 (5 + 3·7) and 2·7
pub triangled-exact : Same real64 (elem real64 triangled.slab b.view 0 0) (float 52) × Same real64 (elem real64 triangled.slab b.view 1 0) (float 14)
unfolding trmm trmm_shape judge too_large out_of_bounds overlaps any place index sum eq is_nan
triangled-exact =
    let l =
    real64-triangles-exact.trmm Left Lower Transposed Unit (float 2) t b (pos 2) zt zb
    (whole_by real_wholes largest_scalar_part (float 2) (pos 2) refl)
    (shows-by real_wholes (named Lower Unit) t zt refl)
    (shows-by real_wholes everywhere b zb refl)
    refl
    in
    (l.left 0 0 (lit≤ tt) (lit≤ tt) refl, l.left 1 0 (lit≤ tt) (lit≤ tt) refl)

-- ---- [[1, NaN], [3, 5]] by rows, and [[1, 99], [3, 5]] by columns from the slab's second number

-- an odd number as its format writes it
abbrev odd : ℕ → Float
odd n = fin false n (pos 0)

abbrev pub by_rows : Lent real64
by_rows = lent_rows 2 2 (odd 1 ∷ nan ∷ odd 3 ∷ odd 5 ∷ [])

abbrev pub by_columns : Lent real64
by_columns =
    lent real64 (nan ∷ odd 1 ∷ odd 3 ∷ odd 99 ∷ odd 5 ∷ []) (record { start = 1; rows = 2; cols = 2; rs = pos 1; cs = pos 2 })

-- no call of symm tells the one from the other
pub above-unseen : Alike real64 (Others real64) (run real64 (symm real64 Left Lower)) by_rows by_columns
unfolding too_large out_of_bounds any place index fits finite_float eq is_nan
above-unseen =
    (real64-products-see.symm-sees Left Lower by_rows by_columns (record { rows = refl; cols = refl })
    (coefficient-by Square (triangle Lower) by_rows refl refl refl refl refl)
    (coefficient-by Square (triangle Lower) by_columns refl refl refl refl refl)
    ).1 (agree-by (triangle Lower) by_rows by_columns refl)

-- ---- 1 by 1 matrices of a finite number

abbrev pub single : Float → Lent real64
single x = lent_rows 1 1 (x ∷ [])

-- +0 and −0 are one number: no call of gemv tells them apart
pub zeros-alike : Alike real64 (Others real64) (run real64 (gemv real64 NoTrans)) (single (fin false 0 (pos 0))) (single (fin true 0 (pos 0)))
unfolding too_large out_of_bounds any place index fits finite_float eq is_nan
zeros-alike =
    (real64-products-see.gemv-sees NoTrans (single (fin false 0 (pos 0))) (single (fin true 0 (pos 0))) (record { rows = refl; cols = refl })
    (coefficient-by General whole_matrix (single (fin false 0 (pos 0))) tt refl refl refl refl)
    (coefficient-by General whole_matrix (single (fin true 0 (pos 0))) tt refl refl refl refl)
    ).1 (agree-by whole_matrix (single (fin false 0 (pos 0))) (single (fin true 0 (pos 0))) refl)

-- 1 and 3 are two: some call of gemv does
pub one-is-not-three : Alike real64 (Others real64) (run real64 (gemv real64 NoTrans)) (single (odd 1)) (single (odd 3)) → ⊥
unfolding too_large out_of_bounds any place index fits finite_float eq is_nan
one-is-not-three h =
    (((real64-products-see.gemv-sees NoTrans (single (odd 1)) (single (odd 3)) (record { rows = refl; cols = refl })
    (coefficient-by General whole_matrix (single (odd 1)) tt refl refl refl refl)
    (coefficient-by General whole_matrix (single (odd 3)) tt refl refl refl refl)
    ).0 h).same 0 0 (record { row = lit≤ tt; col = lit≤ tt; named = refl })).same

-- ---- [[z, z], [x, z]] by rows: what a lower triangular Unit solve can see of it is x

abbrev pub below : Float → Float → Lent real64
below x z = lent_rows 2 2 (z ∷ z ∷ x ∷ z ∷ [])

-- no call of trsv tells a diagonal of NaN from one of 99
pub diagonal-unseen : Alike real64 (Single real64) (run_plain real64 (trsv real64 Lower NoTrans Unit)) (below (odd 3) nan) (below (odd 3) (odd 99))
unfolding too_large out_of_bounds any place index fits finite_float eq is_nan
diagonal-unseen =
    (real64-triangles-see.trsv-sees Lower NoTrans (below (odd 3) nan) (below (odd 3) (odd 99)) (record { rows = refl; cols = refl })
    (coefficient-by Square (named Lower Unit) (below (odd 3) nan) refl refl refl refl refl)
    (coefficient-by Square (named Lower Unit) (below (odd 3) (odd 99)) refl refl refl refl refl)
    ).1 (agree-by (named Lower Unit) (below (odd 3) nan) (below (odd 3) (odd 99)) refl)

-- some call tells a 1 below the diagonal from a 3
pub below-seen : Alike real64 (Single real64) (run_plain real64 (trsv real64 Lower NoTrans Unit)) (below (odd 1) nan) (below (odd 3) nan) → ⊥
unfolding too_large out_of_bounds any place index fits finite_float eq is_nan
below-seen h =
    (((real64-triangles-see.trsv-sees Lower NoTrans (below (odd 1) nan) (below (odd 3) nan) (record { rows = refl; cols = refl })
    (coefficient-by Square (named Lower Unit) (below (odd 1) nan) refl refl refl refl refl)
    (coefficient-by Square (named Lower Unit) (below (odd 3) nan) refl refl refl refl refl)
    ).0 h).same 1 0 (record { row = lit≤ tt; col = lit≤ tt; named = refl })).same
