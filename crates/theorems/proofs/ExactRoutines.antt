-- The seven products, the rank updates her, her2, syr2k and her2k, and the triangular products trmv and trmm are exact on whole numbers of
-- document 01's range, over any kind with its basis. Where a routine's own order of operations is not the papers' formula, that order is exact, and
-- over whole numbers it gives the formula.
use Prim.Native.Nat.{ℕ, ◌*◌, ◌≤◌, ◌<◌}
use mathlib.Core.Bool.{Bool, true, false, cond, ◌&&◌}
use mathlib.Core.Path.{◌≡◌, refl, sym, ap, subst, ◌∙◌}
use native.Mathlib.Nat.{mul-le-mul_right}
use native.Mathlib.Omega.{arith}
use lib.Dec.{eqb, lit≤}
use borrow.Author.Tests.{eqb-true, eq-eqb}
use Rattle.number.specs.Kind.{Kind, Same}
use Rattle.number.specs.Scaling.{scaled}
use Rattle.theorems.proofs.Words.{View, Trans, NoTrans, Transposed, ConjTrans, UpLo, Diag, Side, Left, Right}
use Rattle.view.specs.Refusals.{overlaps}
use Rattle.view.specs.Steps.{Accepted}
use Rattle.view.specs.Checks.{op_rows, op_cols, order_of, syrk_shape, syr2k_shape, gemv_check, hemv_check, gemm_check, symm_check, syrk_check, herk_check, her_check, her2_check, syr2k_check, her2k_check, trmv_check, trmm_check}
use Rattle.view.specs.Triangle.{in_triangle}
use Rattle.view.specs.Vector.{column_of}
use Rattle.view.proofs.AnyLaws.{both_ways}
use Rattle.view.proofs.JudgeLaws.{Vector, judge-passed, gemv-sizes, hemv-sizes, gemm-sizes, symm-sizes, syrk-sizes, syr2k-sizes, trmv-sizes, trmm-sizes}
use Rattle.view.proofs.VectorLaws.{column-accepted, column-no-overlap}
use Rattle.slabs.specs.Elem.{Lent}
use Rattle.slabs.specs.Update.{everywhere, update}
use Rattle.blas.specs.Matrix.{Matrix, matrix, vector, op, dot, pair_sum, accumulate}
use Rattle.blas.specs.Outcome.{Outcome, outcome}
use Rattle.blas.specs.Gemv.{gemv}
use Rattle.blas.specs.Hemv.{hemv}
use Rattle.blas.specs.Gemm.{gemm}
use Rattle.blas.specs.Symm.{symm}
use Rattle.blas.specs.Hemm.{hemm}
use Rattle.blas.specs.Syrk.{syrk, syrk_left, syrk_right}
use Rattle.blas.specs.Herk.{herk, herk_left, herk_right}
use Rattle.blas.specs.Her.{her}
use Rattle.blas.specs.Her2.{her2, her2_change}
use Rattle.blas.specs.Syr2k.{syr2k, syr2k_product}
use Rattle.blas.specs.Her2k.{her2k, her2k_product}
use Rattle.blas.specs.Triangular.{in_op, is_unit, triangular, triangular_dot}
use Rattle.blas.specs.Trmv.{trmv}
use Rattle.blas.specs.Trmm.{trmm}
use Rattle.theorems.specs.Exactness.{Scalar, Shows, ShowsVector, Leaves, combined, times_vector}
use Rattle.theorems.specs.ExactProducts.{on_side, GemvExact, HemvExact, GemmExact, SymmExact, HemmExact, SyrkExact, HerkExact, ProductsExact}
use Rattle.theorems.specs.ExactRank.{outer, both_terms, by_transpose, by_conjugate, HerExact, Her2Exact, Syr2kExact, Her2kExact, RankExact}
use Rattle.theorems.specs.ExactTriangles.{on_unit, triangle_of, TrmvExact, TrmmExact, TrianglesExact}
use Rattle.theorems.specs.Agreement.{SameShape}
use Rattle.theorems.specs.TriangularAgreement.{named}
use Rattle.theorems.proofs.Respects.{Respected, pair-respects, op_same, op_le, op-faithful, symmetric-faithful, hermitian-faithful}
use Rattle.theorems.proofs.Triangles.{takes-triangle, product-respects}
use Rattle.theorems.proofs.Rings.{Ring, pair-apart, weight-out, skipped}
use Rattle.theorems.proofs.ExactBasis.{Sized, sized-respected, scale-sized, Basis, wholes, Few, element_size, scalar_size, scaled_fits, product-fits, sums-fit, weighed-fit, scalar-sized, factor-sized, Range, shows-sized, vector-sized, read, fit, Ready, framed, becomes, by-beta, by-real-beta, Sums, Weighed, dot-sums, by-alpha, by-real-alpha, added}

-- ---- numbers of terms

few-rows : (v : View) {len : ℕ} → Accepted v len → Few v.rows
few-rows v a = omega (arith, a.rows-le)

few-op-cols : (t : Trans) (v : View) {len : ℕ} → Accepted v len → Few (op_cols t v)
few-op-cols t v a = omega (arith, (op_le t v a.rows-le a.cols-le).1)

few-twice : (t : Trans) (v : View) {len : ℕ} → Accepted v len → Few (2 * op_cols t v)
few-twice t v a = omega (arith, (op_le t v a.rows-le a.cols-le).1)

few-order : (side : Side) (v : View) {len : ℕ} → Accepted v len → Few (order_of side v)
few-order Left v a = omega (arith, a.rows-le)
few-order Right v a = omega (arith, a.cols-le)

-- a vector's column
column-ready : {K Z : Kind} (B : Basis K Z) (y : View) {n len : ℕ} → Vector y n → Accepted y len → overlaps y ≡ false → Ready B (column_of y) len
column-ready B y v a apart = (column-accepted y _ v.vector a, column-no-overlap y v.vector apart)

-- tl reads A as t does, and tr as its transpose
record Turned (t tl tr : Trans) : Type 0 where
  left : (v : View) → (op_rows tl v ≡ op_rows t v) × (op_cols tl v ≡ op_cols t v)
  right : (v : View) → (op_rows tr v ≡ op_cols t v) × (op_cols tr v ≡ op_rows t v)

syrk-turned : (t : Trans) → Turned t (syrk_left t) (syrk_right t)
syrk-turned NoTrans = record { left = λ v. (refl, refl); right = λ v. (refl, refl) }
syrk-turned Transposed = record { left = λ v. (refl, refl); right = λ v. (refl, refl) }
syrk-turned ConjTrans = record { left = λ v. (refl, refl); right = λ v. (refl, refl) }

herk-turned : (t : Trans) → Turned t (herk_left t) (herk_right t)
herk-turned NoTrans = record { left = λ v. (refl, refl); right = λ v. (refl, refl) }
herk-turned Transposed = record { left = λ v. (refl, refl); right = λ v. (refl, refl) }
herk-turned ConjTrans = record { left = λ v. (refl, refl); right = λ v. (refl, refl) }

-- ---- the products

module _ {K Z : Kind} (B : Basis K Z) where
  gemm-exact : GemmExact (wholes B)
  unfolding gemm
  gemm-exact ta tb alpha a b beta c zalpha za zb zbeta zc halpha ha hb hbeta hc done =
      framed B _ _ _ _ _ (gemm_check ta tb a.view (K.count a.slab) b.view (K.count b.slab) c.view (K.count c.slab)) done (λ d.
      let passed = judge-passed _ _ _ d in
      let s = gemm-sizes ta tb a.view b.view c.view passed.shape in
      let few = few-op-cols ta a.view passed.each.0 in (
        (passed.each.1.1.0, passed.distinct),
        added B few (by-beta B hbeta (λ e. shows-sized B (hc e)))
            (by-alpha B few halpha (dot-sums B few (fit B s.1 refl (read B a (op-faithful a.view ta) ha)) (fit B s.0 s.2 (read B b (op-faithful b.view tb) hb)))),
      ))

  -- the vectors as columns
  gemv-exact : GemvExact (wholes B)
  unfolding gemv
  gemv-exact trans alpha a x beta y zalpha za zx zbeta zy halpha ha hx hbeta hy done =
      framed B _ _ _ _ _ (gemv_check trans a.view (K.count a.slab) x.view (K.count x.slab) y.view (K.count y.slab)) done (λ d.
      let passed = judge-passed _ _ _ d in
      let s = gemv-sizes trans a.view x.view y.view passed.shape in
      let few = few-op-cols trans a.view passed.each.0 in (
        column-ready B y.view s.1 passed.each.1.1.0 passed.distinct,
        added B few (by-beta B hbeta (λ e. vector-sized B (hy e)))
            (by-alpha B few halpha (dot-sums B few (fit B s.1.length refl (read B a (op-faithful a.view trans) ha)) (fit B (sym s.0.length) refl (vector-sized B hx)))),
      ))

  hemv-exact : HemvExact (wholes B)
  unfolding hemv
  hemv-exact uplo alpha a x beta y zalpha za zx zbeta zy halpha ha hx hbeta hy done =
      framed B _ _ _ _ _ (hemv_check a.view (K.count a.slab) x.view (K.count x.slab) y.view (K.count y.slab)) done (λ d.
      let passed = judge-passed _ _ _ d in
      let s = hemv-sizes a.view x.view y.view passed.shape in
      let few = few-rows a.view passed.each.0 in
      let square = read B a (hermitian-faithful uplo a.view a.view.rows refl s.0) ha in (
        column-ready B y.view s.2 passed.each.1.1.0 passed.distinct,
        added B few (by-beta B hbeta (λ e. vector-sized B (hy e)))
            (by-alpha B few halpha (dot-sums B few (fit B s.2.length refl square) (fit B (sym s.1.length) refl (vector-sized B hx)))),
      ))

  -- x, the symmetric or Hermitian matrix of A, on a side of B
  sided-sums : (side : Side) (c : View) (few : Few (order_of side c)) (x b : Matrix K) (zx zb : Matrix Z)
      → Range B everywhere (order_of side c) (order_of side c) x zx
      → Range B everywhere c.rows c.cols b zb
      → Sums B few c.rows c.cols (on_side K side (order_of side c) x b) (on_side Z side (order_of side c) zx zb)
  sided-sums Left c few x b zx zb hx hb = dot-sums B few hx hb
  sided-sums Right c few x b zx zb hx hb = dot-sums B few hb hx

  module _ (side : Side) (alpha : K.Elem) (a b : Lent K) (beta : K.Elem) (c : Lent K) {zalpha : Z.Elem} {zb : Matrix Z} {zbeta : Z.Elem} {zc : Matrix Z}
      (halpha : Scalar (wholes B) alpha zalpha) (hb : Shows (wholes B) everywhere b zb) (hbeta : Scalar (wholes B) beta zbeta)
      (hc : Z.is_zero zbeta ≡ false → Shows (wholes B) everywhere c zc)
      (x : Matrix K) (zx : Matrix Z) (square : (n : ℕ) → a.view.rows ≡ n → a.view.cols ≡ n → Range B everywhere n n x zx) where
    abbrev sided : Outcome K
    sided =
        outcome K (symm_check side a.view (K.count a.slab) b.view (K.count b.slab) c.view (K.count c.slab))
        (update K c.view everywhere (accumulate K (scaled K beta) (K.mul alpha) (on_side K side (order_of side c.view) x (matrix K b))) c.slab)
        c.slab

    sided-exact : sided.answer ≡ 0
        → Leaves (wholes B) everywhere sided.slab c (λ i j. combined Z zbeta (zc i j) zalpha (on_side Z side (order_of side c.view) zx zb i j))
    sided-exact done =
        framed B _ _ _ _ _ (symm_check side a.view (K.count a.slab) b.view (K.count b.slab) c.view (K.count c.slab)) done (λ d.
        let passed = judge-passed _ _ _ d in
        let s = symm-sizes side a.view b.view c.view passed.shape in
        let few = few-order side c.view passed.each.1.1.0 in (
          (passed.each.1.1.0, passed.distinct),
          added B few (by-beta B hbeta (λ e. shows-sized B (hc e)))
              (by-alpha B few halpha (sided-sums side c.view few _ _ _ _ (square _ s.0 s.1) (fit B (sym s.2) (sym s.3) (shows-sized B hb)))),
        ))

  symm-exact : SymmExact (wholes B)
  unfolding symm
  symm-exact Left uplo alpha a b beta c zalpha za zb zbeta zc halpha ha hb hbeta hc =
      sided-exact Left alpha a b beta c halpha hb hbeta hc _ _ (λ n e e'. read B a (symmetric-faithful uplo a.view n e e') ha)
  symm-exact Right uplo alpha a b beta c zalpha za zb zbeta zc halpha ha hb hbeta hc =
      sided-exact Right alpha a b beta c halpha hb hbeta hc _ _ (λ n e e'. read B a (symmetric-faithful uplo a.view n e e') ha)

  hemm-exact : HemmExact (wholes B)
  unfolding hemm
  hemm-exact Left uplo alpha a b beta c zalpha za zb zbeta zc halpha ha hb hbeta hc =
      sided-exact Left alpha a b beta c halpha hb hbeta hc _ _ (λ n e e'. read B a (hermitian-faithful uplo a.view n e e') ha)
  hemm-exact Right uplo alpha a b beta c zalpha za zb zbeta zc halpha ha hb hbeta hc =
      sided-exact Right alpha a b beta c halpha hb hbeta hc _ _ (λ n e e'. read B a (hermitian-faithful uplo a.view n e e') ha)

  -- ---- operands of syrk, herk, syr2k and her2k: of A's shape, on the left by tl as op(A) is, on the right by tr as its transpose is

  module _ {t tl tr : Trans} (turned : Turned t tl tr) (a : View) (c : View) (rows : c.rows ≡ op_rows t a) (cols : c.cols ≡ op_rows t a)
      (l : Lent K) {z : Matrix Z} (h : Shows (wholes B) everywhere l z) (same : SameShape l.view a) where
    on-left : Range B everywhere c.rows (op_cols t a) (op K tl (matrix K l)) (op Z tl z)
    on-left =
        let e = turned.left l.view in
        let s = op_same t l.view a same in
        fit B (rows ∙ sym (e.0 ∙ s.0)) (sym (e.1 ∙ s.1)) (read B l (op-faithful l.view tl) h)

    on-right : Range B everywhere (op_cols t a) c.cols (op K tr (matrix K l)) (op Z tr z)
    on-right =
        let e = turned.right l.view in
        let s = op_same t l.view a same in
        fit B (sym (e.0 ∙ s.1)) (cols ∙ sym (e.1 ∙ s.0)) (read B l (op-faithful l.view tr) h)

  twice-sums : {t tl tr : Trans} → Turned t tl tr → (a : Lent K) {z : Matrix Z} → Shows (wholes B) everywhere a z → (c : View)
      → syrk_shape t a.view c ≡ true
      → (few : Few (op_cols t a.view))
      → Sums B few c.rows c.cols (dot K (op_cols t a.view) (op K tl (matrix K a)) (op K tr (matrix K a))) (dot Z (op_cols t a.view) (op Z tl z) (op Z tr z))
  twice-sums {t} turned a h c shape few =
      let s = syrk-sizes t a.view c shape in
      let same : SameShape a.view a.view = record { rows = refl; cols = refl } in
      dot-sums B few (on-left turned a.view c s.0 s.1 a h same) (on-right turned a.view c s.0 s.1 a h same)

  syrk-exact : SyrkExact (wholes B)
  unfolding syrk
  syrk-exact uplo trans alpha a beta c zalpha za zbeta zc halpha ha hbeta hc done =
      framed B _ _ _ _ _ (syrk_check trans a.view (K.count a.slab) c.view (K.count c.slab)) done (λ d.
      let passed = judge-passed _ _ _ d in
      let few = few-op-cols trans a.view passed.each.0 in (
        (passed.each.1.0, passed.distinct),
        added B few (by-beta B hbeta (λ e. shows-sized B (hc e))) (by-alpha B few halpha (twice-sums (syrk-turned trans) a ha c.view passed.shape few)),
      ))

  herk-exact : HerkExact (wholes B)
  unfolding herk
  herk-exact uplo trans alpha a beta c zalpha za zbeta zc halpha ha hbeta hc done =
      framed B _ _ _ _ _ (herk_check trans a.view (K.count a.slab) c.view (K.count c.slab)) done (λ d.
      let passed = judge-passed _ _ _ d in
      let few = few-op-cols trans a.view passed.each.0 in (
        (passed.each.1.0, passed.distinct),
        added B few (by-real-beta B hbeta (λ e. shows-sized B (hc e))) (by-real-alpha B few halpha (twice-sums (herk-turned trans) a ha c.view passed.shape few)),
      ))

  pub products-exact : ProductsExact (wholes B)
  products-exact =
      record { gemv = gemv-exact; hemv = hemv-exact; gemm = gemm-exact; symm = symm-exact; hemm = hemm-exact; syrk = syrk-exact; herk = herk-exact }

-- ---- the rank updates: the papers' formulas

module _ {Z : Kind} (R : Ring Z) where
  her2-formula : (alpha : Z.Elem) (x y : ℕ → Z.Elem) (i j : ℕ) (old : Z.Elem)
      → her2_change Z alpha (λ i j. x i) (λ i j. y i) i j old ≡ Z.add old (both_terms Z alpha (outer Z x y i j) (Z.conj alpha) (outer Z y x i j))
  her2-formula alpha x y i j old =
      R.add_assoc old (Z.mul (Z.mul alpha (x i)) (Z.conj (y j))) (Z.mul (Z.mul (Z.conj alpha) (y i)) (Z.conj (x j)))
      ∙ (λ t. Z.add old (Z.add (R.mul_assoc alpha (x i) (Z.conj (y j)) t) (R.mul_assoc (Z.conj alpha) (y i) (Z.conj (x j)) t)))

  syr2k-formula : (trans : Trans) (alpha : Z.Elem) (n : ℕ) (a b : Matrix Z) (i j : ℕ)
      → Z.mul alpha (syr2k_product Z trans n a b i j) ≡ both_terms Z alpha (by_transpose Z trans n a b i j) alpha (by_transpose Z trans n b a i j)
  syr2k-formula trans alpha n a b i j =
      ap (Z.mul alpha)
      (pair-apart R n (λ p. Z.mul (op Z (syrk_left trans) a i p) (op Z (syrk_right trans) b p j)) (λ p. Z.mul (op Z (syrk_left trans) b i p) (op Z (syrk_right trans) a p j)))
      ∙ R.mul-add alpha (by_transpose Z trans n a b i j) (by_transpose Z trans n b a i j)

  her2k-formula : (trans : Trans) (alpha : Z.Elem) (n : ℕ) (a b : Matrix Z) (i j : ℕ)
      → her2k_product Z trans alpha n a b i j ≡ both_terms Z alpha (by_conjugate Z trans n a b i j) (Z.conj alpha) (by_conjugate Z trans n b a i j)
  her2k-formula trans alpha n a b i j =
      pair-apart R n
      (λ p. Z.mul (Z.mul alpha (op Z (herk_left trans) a i p)) (op Z (herk_right trans) b p j))
      (λ p. Z.mul (Z.mul (Z.conj alpha) (op Z (herk_left trans) b i p)) (op Z (herk_right trans) a p j))
      ∙ (λ t. Z.add
      (weight-out R n alpha (op Z (herk_left trans) a i) (λ p. op Z (herk_right trans) b p j) t)
      (weight-out R n (Z.conj alpha) (op Z (herk_left trans) b i) (λ p. op Z (herk_right trans) a p j) t))

-- ---- their sizes and their exactness

module _ {K Z : Kind} (B : Basis K Z) where
  abbrev S : Respected K Z B.exact.bound (Sized B.exact)
  S = sized-respected B.exact

  -- (alpha a) b
  abbrev weighed_size : ℕ
  weighed_size = scalar_size B * (element_size B * element_size B)

  weighed-fits : scalar_size B * element_size B * element_size B ≤ B.exact.bound
  weighed-fits = omega (arith, weighed-fit B 1 (lit≤ tt))

  weighed : {alpha x y : K.Elem} {zalpha zx zy : Z.Elem} → Sized B.exact (scalar_size B) alpha zalpha → Sized B.exact (element_size B) x zx
      → Sized B.exact (element_size B) y zy → Sized B.exact weighed_size (K.mul (K.mul alpha x) y) (Z.mul (Z.mul zalpha zx) zy)
  weighed h p q = S.wider (omega arith) (S.mul (S.mul h p (scaled_fits B)) q weighed-fits)

  -- a vector's elements
  in-range : {x : Lent K} {z : ℕ → Z.Elem} {n : ℕ} → Vector x.view n → ShowsVector (wholes B) x z → (i : ℕ) → i < n
      → Sized B.exact (element_size B) (vector K x i 0) (z i)
  in-range v h i p = vector-sized B h i 0 (omega (arith, v.length)) (lit≤ tt) refl

  her-exact : HerExact (wholes B)
  unfolding her
  her-exact uplo alpha x a zalpha zx za halpha hx ha done =
      becomes B (λ i j. ap (Z.add (za i j)) (B.ring.scale-mul zalpha (zx i) (Z.conj (zx j))))
      (framed B _ _ _ _ _ (her_check x.view (K.count x.slab) a.view (K.count a.slab)) done (λ d.
      let passed = judge-passed _ _ _ d in
      let s = trmv-sizes a.view x.view passed.shape in
      let r = in-range s.1 hx in
      let few : Few 1 = lit≤ tt in (
        (passed.each.1.0, passed.distinct),
        added B few (λ i j p q u. S.wider (omega (arith, mul-le-mul_right (element_size B) (B.room 0 (lit≤ tt)).some)) (shows-sized B ha i j p q u))
            (λ i j p q u. S.wider (omega arith)
            (S.mul (scale-sized B.exact (factor-sized B halpha) (r i p) (scaled_fits B)) (S.conj (r j (omega (arith, s.0)))) weighed-fits)),
      )))

  her2-exact : Her2Exact (wholes B)
  unfolding her2
  her2-exact uplo alpha x y a zalpha zx zy za halpha hx hy ha done =
      becomes B (λ i j. her2-formula B.ring zalpha zx zy i j (za i j))
      (framed B _ _ _ _ _ (her2_check x.view (K.count x.slab) y.view (K.count y.slab) a.view (K.count a.slab)) done (λ d.
      let passed = judge-passed _ _ _ d in
      let s = hemv-sizes a.view x.view y.view passed.shape in
      let rx = in-range s.1 hx in
      let ry = in-range s.2 hy in
      let h = scalar-sized B halpha in
      let fits = (B.room 2 (lit≤ tt)).room in
      let k = mul-le-mul_right (element_size B) (B.room 0 (lit≤ tt)).some in (
        (passed.each.1.1.0, passed.distinct),
        λ i j p q u. let q' : j < a.view.rows = omega (arith, s.0) in
            (S.add (S.add (shows-sized B ha i j p q u) (weighed h (rx i p) (S.conj (ry j q'))) (omega arith)) (weighed (S.conj h) (ry i p) (S.conj (rx j q'))) (omega arith)).same,
      )))

  -- ---- syr2k and her2k: A by tl and B by tr, and B by tl and A by tr

  module _ {t tl tr : Trans} (turned : Turned t tl tr) (a b : Lent K) {za zb : Matrix Z} (ha : Shows (wholes B) everywhere a za) (hb : Shows (wholes B) everywhere b zb)
      (c : View) (shape : syr2k_shape t a.view b.view c ≡ true) (few : Few (2 * op_cols t a.view)) where
    -- the four operands of the products with index k
    operands : (i j k : ℕ) → i < c.rows → j < c.cols → k < op_cols t a.view
        → Sized B.exact (element_size B) (op K tl (matrix K a) i k) (op Z tl za i k) × Sized B.exact (element_size B) (op K tr (matrix K b) k j) (op Z tr zb k j)
        × Sized B.exact (element_size B) (op K tl (matrix K b) i k) (op Z tl zb i k) × Sized B.exact (element_size B) (op K tr (matrix K a) k j) (op Z tr za k j)
    operands i j k p q l =
        let s = syr2k-sizes t a.view b.view c shape in
        let same : SameShape a.view a.view = record { rows = refl; cols = refl } in
        let same' : SameShape b.view a.view = record { rows = s.0; cols = s.1 } in (
          on-left B turned a.view c s.2 s.3 a ha same i k p l refl,
          on-right B turned a.view c s.2 s.3 b hb same' k j l q refl,
          on-left B turned a.view c s.2 s.3 b hb same' i k p l refl,
          on-right B turned a.view c s.2 s.3 a ha same k j l q refl,
        )

    pair-sums : Sums B few c.rows c.cols
        (λ i j. pair_sum K (op_cols t a.view) (λ p. K.mul (op K tl (matrix K a) i p) (op K tr (matrix K b) p j)) (λ p. K.mul (op K tl (matrix K b) i p) (op K tr (matrix K a) p j)))
        (λ i j. pair_sum Z (op_cols t a.view) (λ p. Z.mul (op Z tl za i p) (op Z tr zb p j)) (λ p. Z.mul (op Z tl zb i p) (op Z tr za p j)))
    pair-sums i j p q u =
        pair-respects S (op_cols t a.view) (element_size B * element_size B) _ _ _ _
        (λ k l. let o = operands i j k p q l in (S.mul o.0 o.1 (product-fits B), S.mul o.2 o.3 (product-fits B))) (sums-fit B _ few)

    weighed-pairs : (alpha : K.Elem) (zalpha : Z.Elem) → Scalar (wholes B) alpha zalpha → Weighed B few c.rows c.cols
        (λ i j. pair_sum K (op_cols t a.view) (λ p. K.mul (K.mul alpha (op K tl (matrix K a) i p)) (op K tr (matrix K b) p j))
        (λ p. K.mul (K.mul (K.conj alpha) (op K tl (matrix K b) i p)) (op K tr (matrix K a) p j)))
        (λ i j. pair_sum Z (op_cols t a.view) (λ p. Z.mul (Z.mul zalpha (op Z tl za i p)) (op Z tr zb p j)) (λ p. Z.mul (Z.mul (Z.conj zalpha) (op Z tl zb i p)) (op Z tr za p j)))
    weighed-pairs alpha zalpha halpha i j p q u =
        let h = scalar-sized B halpha in
        S.wider (omega arith)
        (pair-respects S (op_cols t a.view) weighed_size _ _ _ _
        (λ k l. let o = operands i j k p q l in (weighed h o.0 o.1, weighed (S.conj h) o.2 o.3)) (omega (arith, weighed-fit B _ few)))

  syr2k-exact : Syr2kExact (wholes B)
  unfolding syr2k
  syr2k-exact uplo trans alpha a b beta c zalpha za zb zbeta zc halpha ha hb hbeta hc done =
      becomes B (λ i j. ap (Z.add (Z.mul zbeta (zc i j))) (syr2k-formula B.ring trans zalpha (op_cols trans a.view) za zb i j))
      (framed B _ _ _ _ _ (syr2k_check trans a.view (K.count a.slab) b.view (K.count b.slab) c.view (K.count c.slab)) done (λ d.
      let passed = judge-passed _ _ _ d in
      let few = few-twice trans a.view passed.each.0 in (
        (passed.each.1.1.0, passed.distinct),
        added B few (by-beta B hbeta (λ e. shows-sized B (hc e))) (by-alpha B few halpha (pair-sums (syrk-turned trans) a b ha hb c.view passed.shape few)),
      )))

  her2k-exact : Her2kExact (wholes B)
  unfolding her2k
  her2k-exact uplo trans alpha a b beta c zalpha za zb zbeta zc halpha ha hb hbeta hc done =
      becomes B (λ i j. ap (Z.add (Z.scale_real zbeta (zc i j))) (her2k-formula B.ring trans zalpha (op_cols trans a.view) za zb i j))
      (framed B _ _ _ _ _ (her2k_check trans a.view (K.count a.slab) b.view (K.count b.slab) c.view (K.count c.slab)) done (λ d.
      let passed = judge-passed _ _ _ d in
      let few = few-twice trans a.view passed.each.0 in (
        (passed.each.1.1.0, passed.distinct),
        added B few (by-real-beta B hbeta (λ e. shows-sized B (hc e))) (weighed-pairs (herk-turned trans) a b ha hb c.view passed.shape few alpha zalpha halpha),
      )))

  pub rank-exact : RankExact (wholes B)
  rank-exact = record { her = her-exact; her2 = her2-exact; syr2k = syr2k-exact; her2k = her2k-exact }

-- ---- the triangular products: the papers' formula

unit-swap : (diag : Diag) (i j : ℕ) → on_unit diag i j ≡ on_unit diag j i
unit-swap diag i j =
    ap (λ (b : Bool). is_unit diag && b) (both_ways (eqb i j) (eqb j i) (λ h. eq-eqb j i (sym (eqb-true i j h))) (λ h. eq-eqb i j (sym (eqb-true j i h))))

module _ {Z : Kind} (R : Ring Z) (uplo : UpLo) (diag : Diag) (a : Matrix Z) where
  -- element (i, j) of the triangular matrix, by whether it is inside
  at_place : (i j : ℕ) (b : Bool) → in_triangle uplo i j ≡ b
      → triangle_of Z uplo diag a i j ≡ cond b (cond (on_unit diag i j) Z.one (a i j)) Z.zero
  at_place i j b e = ap (λ (b : Bool). cond b (cond (on_unit diag i j) Z.one (a i j)) Z.zero) e

  inside_is : (t : Trans) (i j : ℕ) → in_op uplo t i j ≡ true → triangular Z diag t a i j ≡ op Z t (triangle_of Z uplo diag a) i j
  inside_is NoTrans i j h = sym (at_place i j true (sym (takes-triangle Left uplo NoTrans i j) ∙ h))
  inside_is Transposed i j h =
      ap (λ (b : Bool). cond b Z.one (a j i)) (unit-swap diag i j) ∙ sym (at_place j i true (sym (takes-triangle Left uplo Transposed i j) ∙ h))
  inside_is ConjTrans i j h =
      ap (λ (b : Bool). cond b Z.one (Z.conj (a j i))) (unit-swap diag i j)
      ∙ at (on_unit diag j i)
      ∙ sym (ap Z.conj (at_place j i true (sym (takes-triangle Left uplo ConjTrans i j) ∙ h)))
    where
      at : (b : Bool) → cond b Z.one (Z.conj (a j i)) ≡ Z.conj (cond b Z.one (a j i))
      at true = sym R.conj-one
      at false = refl

  outside-is : (t : Trans) (i j : ℕ) → in_op uplo t i j ≡ false → op Z t (triangle_of Z uplo diag a) i j ≡ Z.zero
  outside-is NoTrans i j h = at_place i j false (sym (takes-triangle Left uplo NoTrans i j) ∙ h)
  outside-is Transposed i j h = at_place j i false (sym (takes-triangle Left uplo Transposed i j) ∙ h)
  outside-is ConjTrans i j h = ap Z.conj (at_place j i false (sym (takes-triangle Left uplo ConjTrans i j) ∙ h)) ∙ R.conj-zero

  triangular-formula : (side : Side) (t : Trans) (n : ℕ) (b : Matrix Z) (i j : ℕ)
      → triangular_dot Z side uplo t diag n a b i j ≡ on_side Z side n (op Z t (triangle_of Z uplo diag a)) b i j
  triangular-formula Left t n b i j =
      skipped R n (λ p. in_op uplo t i p) _ _
      (λ p h. ap (λ (x : Z.Elem). Z.mul x (b p j)) (inside_is t i p h))
      (λ p h. ap (λ (x : Z.Elem). Z.mul x (b p j)) (outside-is t i p h) ∙ R.zero-mul (b p j))
  triangular-formula Right t n b i j =
      skipped R n (λ p. in_op uplo t p j) _ _
      (λ p h. ap (Z.mul (b i p)) (inside_is t p j h))
      (λ p h. ap (Z.mul (b i p)) (outside-is t p j h) ∙ R.mul-zero (b i p))

-- ---- their exactness

module _ {K Z : Kind} (B : Basis K Z) where
  triangle-sums : (side : Side) (uplo : UpLo) (t : Trans) (diag : Diag) (c : View) (few : Few (order_of side c)) (a b : Matrix K) (za zb : Matrix Z)
      → Range B (named uplo diag) (order_of side c) (order_of side c) a za → Range B everywhere c.rows c.cols b zb
      → Sums B few c.rows c.cols (triangular_dot K side uplo t diag (order_of side c) a b) (triangular_dot Z side uplo t diag (order_of side c) za zb)
  triangle-sums Left uplo t diag c few a b za zb ha hb i j p q u =
      product-respects Left uplo t diag (sized-respected B.exact) (element_size B) _ (record { same = B.exact.one-exact; size = B.size-one })
      a za _ _ i p ha (λ k l. hb k j l q refl) (sums-fit B _ few)
  triangle-sums Right uplo t diag c few a b za zb ha hb i j p q u =
      product-respects Right uplo t diag (sized-respected B.exact) (element_size B) _ (record { same = B.exact.one-exact; size = B.size-one })
      a za _ _ j q ha (λ k l. hb i k p l refl) (sums-fit B _ few)

  trmv-exact : TrmvExact (wholes B)
  unfolding trmv
  trmv-exact uplo trans diag a x za zx ha hx done =
      framed B _ _ _ _ _ (trmv_check a.view (K.count a.slab) x.view (K.count x.slab)) done (λ d.
      let passed = judge-passed _ _ _ d in
      let s = trmv-sizes a.view x.view passed.shape in
      let ready = column-ready B x.view s.1 passed.each.1.0 passed.distinct in
      let c = column_of x.view in (
        ready,
        λ i j p q u. subst (λ (w : Z.Elem). Same K (triangular_dot K Left uplo trans diag c.rows (matrix K a) (vector K x) i j) (B.exact.of_whole w))
            (triangular-formula B.ring uplo diag za Left trans c.rows (λ i j. zx i) i j ∙ ap (λ (k : ℕ). times_vector Z k (op Z trans (triangle_of Z uplo diag za)) zx i) s.1.length)
            (triangle-sums Left uplo trans diag c (few-rows c ready.0) _ _ _ _
            (fit B s.1.length (s.1.length ∙ sym s.0) (shows-sized B ha)) (vector-sized B hx) i j p q refl).same,
      ))

  trmm-exact : TrmmExact (wholes B)
  unfolding trmm
  trmm-exact side uplo trans diag alpha a b zalpha za zb halpha ha hb done =
      becomes B (λ i j. ap (Z.mul zalpha) (triangular-formula B.ring uplo diag za side trans (order_of side b.view) zb i j))
      (framed B _ _ _ _ _ (trmm_check side a.view (K.count a.slab) b.view (K.count b.slab)) done (λ d.
      let passed = judge-passed _ _ _ d in
      let s = trmm-sizes side a.view b.view passed.shape in
      let few = few-order side b.view passed.each.1.0 in (
        (passed.each.1.0, passed.distinct),
        λ i j p q u. (by-alpha B few halpha
            (triangle-sums side uplo trans diag b.view few _ _ _ _ (fit B (sym s.0) (sym s.1) (shows-sized B ha)) (shows-sized B hb)) i j p q refl).same,
      )))

  pub triangles-exact : TrianglesExact (wholes B)
  triangles-exact = record { trmv = trmv-exact; trmm = trmm-exact }
