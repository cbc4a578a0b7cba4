-- A call that its check passes is ready: the plan reads and writes inside the slabs; and what the engine's steps ask follows.
use Prim.Native.Nat.{ℕ, ◌+◌, ◌≤◌, ◌<◌}
use mathlib.Core.Bool.{Bool, true, false, not}
use mathlib.Core.List.{[], ◌∷◌}
use mathlib.Core.Path.{◌≡◌, refl, sym, subst}
use native.Mathlib.Omega.{arith}
use Rattle.view.specs.declared.View.{View}
use Rattle.view.specs.declared.Trans.{Trans}
use Rattle.view.specs.declared.Trans.TheVariants.{NoTrans, Trans as Transposed, ConjTrans}
use Rattle.view.specs.declared.Side.{Side}
use Rattle.view.specs.declared.Side.TheVariants.{Left, Right}
use Rattle.view.specs.declared.UpLo.{UpLo}
use Rattle.view.specs.declared.UpLo.TheVariants.{Upper, Lower}
use Rattle.view.specs.Steps.{Accepted}
use Rattle.view.specs.Place.{op_view_of}
use Rattle.view.proofs.TransposeLaws.{transposed-accepted}
use Rattle.view.specs.Judge.{arg}
use Rattle.view.specs.Checks.{op_rows, op_cols, gemv_shape, hemv_shape, gemm_shape, symm_shape, syrk_shape}
use Rattle.view.proofs.JudgeLaws.{Passed, gemv-sizes, hemv-sizes, gemm-sizes, symm-sizes, syrk-sizes}
use Rattle.view.specs.Vector.{column_of}
use Rattle.view.proofs.VectorLaws.{column-accepted}
use Rattle.slabs.specs.Elem.{Within}
use Rattle.blas.specs.Syrk.{syrk_left, syrk_right}
use Rattle.blas.specs.Herk.{herk_left, herk_right}
use Rattle.product_plan.specs.declared.plan.Factors.{Factors}
use Rattle.product_plan.specs.declared.plan.Folded.{Folded}
use Rattle.product_plan.specs.Plan.{terms_before, Reads, FactorsWithin, PlanReady, FoldedReads, FoldedReady, ByRow}
use Rattle.product_plan.specs.Plans.{op_factors, left_factors, right_factors, row_turn, col_turn, is_upper, left_plan, right_plan, gemm_plan, gemv_plan, hemv_plan, syrk_plan, herk_plan, left_turn, right_turn, ReadySided}

-- ---- what the engine's steps ask

pub spans : (f : Factors) (la lb m n k : ℕ) → Reads f la lb m n k → (i j from end : ℕ) → i < m → j < n → from ≤ end → end ≤ k → FactorsWithin f la lb i j from end
spans f la lb m n k r i j from end h g s l =
    record { ordered = s; left = λ p q. r.left i p h (omega arith); right = λ p q. r.right p j (omega arith) g }

-- a column with one after it inside is inside
pub columns-within : {v : View} {len p : ℕ} (j n t : ℕ) → Within v len p (j + n) → t ≤ n → Within v len p (j + t)
columns-within j n t h l = record { fits = h.fits; row = h.row; col = omega (arith, h.col) }

-- a loop's slab keeps its length
pub accepted-kept : (v : View) (len len' : ℕ) → len' ≡ len → Accepted v len → Accepted v len'
accepted-kept v len len' e r = subst (λ (k : ℕ). Accepted v k) (sym e) r

-- the terms before an upper triangle's turn
pub left-room : (plan : Folded) (la lb i j : ℕ) → FoldedReads plan la lb → plan.turn ≡ left_turn → i < plan.target.rows → j < plan.target.cols → i ≤ plan.terms
left-room plan la lb i j r e h g = subst (λ t. terms_before t i j ≤ plan.terms) e (r.turns i j h g)

pub right-room : (plan : Folded) (la lb i j : ℕ) → FoldedReads plan la lb → plan.turn ≡ right_turn → i < plan.target.rows → j < plan.target.cols → j + 1 ≤ plan.terms
right-room plan la lb i j r e h g = subst (λ t. terms_before t i j ≤ plan.terms) e (r.turns i j h g)

-- ---- op(A) op(B)

op-shows : (t : Trans) (v : View) (len i j : ℕ) → Accepted v len → i < op_rows t v → j < op_cols t v → Within (op_view_of t v) len i j
op-shows NoTrans v len i j a p q = record { fits = a; row = p; col = q }
op-shows Transposed v len i j a p q = record { fits = transposed-accepted v len a; row = p; col = q }
op-shows ConjTrans v len i j a p q = record { fits = transposed-accepted v len a; row = p; col = q }

op-reads : (ta tb : Trans) (a b : View) (la lb m n k : ℕ) → Accepted a la → Accepted b lb → m ≡ op_rows ta a → k ≡ op_cols ta a → k ≡ op_rows tb b → n ≡ op_cols tb b
    → Reads (op_factors ta tb a b) la lb m n k
op-reads ta tb a b la lb m n k fa fb em ek eb en =
    record {
      left = λ i p h g. op-shows ta a la i p fa (omega arith) (omega arith);
      right = λ p j h g. op-shows tb b lb p j fb (omega arith) (omega arith);
    }

pub gemm-ready : (ta tb : Trans) (a b c : View) (la lb lc : ℕ) → Passed (arg a la ∷ arg b lb ∷ arg c lc ∷ []) (gemm_shape ta tb a b c) c
    → PlanReady (gemm_plan ta tb a b c) la lb lc
gemm-ready ta tb a b c la lb lc h =
    let s = gemm-sizes ta tb a b c h.shape in
    record {
      target = h.each.1.1.0;
      reads = op-reads ta tb a b la lb _ _ _ h.each.0 h.each.1.0 s.1 refl s.0 s.2;
    }

-- the vectors of a call as columns
pub gemv-ready : (t : Trans) (a x y : View) (la lx ly : ℕ) → Passed (arg a la ∷ arg x lx ∷ arg y ly ∷ []) (gemv_shape t a x y) y
    → PlanReady (gemv_plan t a x y) la lx ly
gemv-ready t a x y la lx ly h =
    let s = gemv-sizes t a x y h.shape in
    let cx = column-accepted x lx s.0.vector h.each.1.0 in
    record {
      target = column-accepted y ly s.1.vector h.each.1.1.0;
      reads = op-reads t NoTrans a (column_of x) la lx _ _ _ h.each.0 cx s.1.length refl (sym s.0.length) refl;
    }

-- how syrk and herk read A has the shape of op(A), and of its transpose on the right
syrk-left-rows : (t : Trans) (a : View) → (op_rows (syrk_left t) a ≡ op_rows t a) × (op_cols (syrk_left t) a ≡ op_cols t a)
syrk-left-rows NoTrans a = (refl, refl)
syrk-left-rows Transposed a = (refl, refl)
syrk-left-rows ConjTrans a = (refl, refl)

syrk-right-rows : (t : Trans) (a : View) → (op_rows (syrk_right t) a ≡ op_cols t a) × (op_cols (syrk_right t) a ≡ op_rows t a)
syrk-right-rows NoTrans a = (refl, refl)
syrk-right-rows Transposed a = (refl, refl)
syrk-right-rows ConjTrans a = (refl, refl)

herk-left-rows : (t : Trans) (a : View) → (op_rows (herk_left t) a ≡ op_rows t a) × (op_cols (herk_left t) a ≡ op_cols t a)
herk-left-rows NoTrans a = (refl, refl)
herk-left-rows Transposed a = (refl, refl)
herk-left-rows ConjTrans a = (refl, refl)

herk-right-rows : (t : Trans) (a : View) → (op_rows (herk_right t) a ≡ op_cols t a) × (op_cols (herk_right t) a ≡ op_rows t a)
herk-right-rows NoTrans a = (refl, refl)
herk-right-rows Transposed a = (refl, refl)
herk-right-rows ConjTrans a = (refl, refl)

module _ (t : Trans) (a c : View) (la lc : ℕ) (h : Passed (arg a la ∷ arg c lc ∷ []) (syrk_shape t a c) c) where
  twice : (tl tr : Trans) → (op_rows tl a ≡ op_rows t a) × (op_cols tl a ≡ op_cols t a) → (op_rows tr a ≡ op_cols t a) × (op_cols tr a ≡ op_rows t a)
      → Reads (op_factors tl tr a a) la la c.rows c.cols (op_cols t a)
  twice tl tr l r =
      let s = syrk-sizes t a c h.shape in
      op-reads tl tr a a la la c.rows c.cols (op_cols t a) h.each.0 h.each.0 (omega arith) (omega arith) (omega arith) (omega arith)

  pub target-square : c.rows ≡ c.cols
  target-square =
      let s = syrk-sizes t a c h.shape in
      omega arith

  pub syrk-ready : PlanReady (syrk_plan t a c) la la lc
  syrk-ready =
      record {
        target = h.each.1.0;
        reads = twice (syrk_left t) (syrk_right t) (syrk-left-rows t a) (syrk-right-rows t a);
      }

  pub herk-ready : PlanReady (herk_plan t a c) la la lc
  herk-ready =
      record {
        target = h.each.1.0;
        reads = twice (herk_left t) (herk_right t) (herk-left-rows t a) (herk-right-rows t a);
      }

-- ---- A, of which the named triangle is read, on a side of B: A is square, so it is inside however it is read

row-turns : (uplo : UpLo) (i j k : ℕ) → i < k → terms_before (row_turn uplo) i j ≤ k
row-turns Upper i j k h = omega arith
row-turns Lower i j k h = omega arith

row_same : (uplo : UpLo) (i j : ℕ) → terms_before (row_turn uplo) i 0 ≡ terms_before (row_turn uplo) i j
row_same Upper i j = refl
row_same Lower i j = refl

module _ (conj : Bool) (a b : View) where
  left-plain : (mirrored : Bool) → (left_factors mirrored conj a b).right_conj ≡ false
  left-plain true = refl
  left-plain false = refl

col-turns : (uplo : UpLo) (i j k : ℕ) → j < k → terms_before (col_turn uplo) i j ≤ k
col-turns Upper i j k h = omega arith
col-turns Lower i j k h = omega arith

module _ (conj : Bool) (a b : View) (la lb : ℕ) (fa : Accepted a la) (fb : Accepted b lb) (k : ℕ) (er : a.rows ≡ k) (ec : a.cols ≡ k) where
  left-reads : (n : ℕ) → b.rows ≡ k → b.cols ≡ n → (mirrored : Bool) → Reads (left_factors mirrored conj a b) la lb k n k
  left-reads n br bc true =
      record {
        left = λ i p h g. record { fits = transposed-accepted a la fa; row = omega arith; col = omega arith };
        right = λ p j h g. record { fits = fb; row = omega arith; col = omega arith };
      }
  left-reads n br bc false =
      record {
        left = λ i p h g. record { fits = fa; row = omega arith; col = omega arith };
        right = λ p j h g. record { fits = fb; row = omega arith; col = omega arith };
      }

  right-reads : (m : ℕ) → b.rows ≡ m → b.cols ≡ k → (mirrored : Bool) → Reads (right_factors mirrored conj a b) lb la m k k
  right-reads m br bc true =
      record {
        left = λ i p h g. record { fits = fb; row = omega arith; col = omega arith };
        right = λ p j h g. record { fits = transposed-accepted a la fa; row = omega arith; col = omega arith };
      }
  right-reads m br bc false =
      record {
        left = λ i p h g. record { fits = fb; row = omega arith; col = omega arith };
        right = λ p j h g. record { fits = fa; row = omega arith; col = omega arith };
      }

module _ (conj : Bool) (uplo : UpLo) (a b c : View) (la lb lc k : ℕ) (fa : Accepted a la) (fb : Accepted b lb) (fc : Accepted c lc)
    (er : a.rows ≡ k) (ec : a.cols ≡ k) where
  left-ready : c.rows ≡ k → b.rows ≡ k → b.cols ≡ c.cols → FoldedReady (left_plan conj uplo a b k c) la lb lc
  left-ready ek br bc =
      let r : (mirrored : Bool) → Reads (left_factors mirrored conj a b) la lb c.rows c.cols k =
      λ m. subst (λ (z : ℕ). Reads (left_factors m conj a b) la lb z c.cols k) (sym ek) (left-reads conj a b la lb fa fb k er ec c.cols br bc m) in
      record { target = fc; reads = record { head = r (is_upper uplo); tail = r (not (is_upper uplo)); turns = λ i j h g. row-turns uplo i j k (omega arith) } }

  left-by-row : c.rows ≡ k → ByRow (left_plan conj uplo a b k c)
  left-by-row ek =
      record {
        same = row_same uplo;
        room = λ i h. row-turns uplo i 0 k (omega arith);
        head_plain = left-plain conj a b (is_upper uplo);
        tail-plain = left-plain conj a b (not (is_upper uplo));
      }

  right-ready : c.cols ≡ k → b.rows ≡ c.rows → b.cols ≡ k → FoldedReady (right_plan conj uplo a b k c) lb la lc
  right-ready ek br bc =
      let r : (mirrored : Bool) → Reads (right_factors mirrored conj a b) lb la c.rows c.cols k =
      λ m. subst (λ (z : ℕ). Reads (right_factors m conj a b) lb la c.rows z k) (sym ek) (right-reads conj a b la lb fa fb k er ec c.rows br bc m) in
      record { target = fc; reads = record { head = r (not (is_upper uplo)); tail = r (is_upper uplo); turns = λ i j h g. col-turns uplo i j k (omega arith) } }

pub hemv-ready : (uplo : UpLo) (a x y : View) (la lx ly : ℕ) → Passed (arg a la ∷ arg x lx ∷ arg y ly ∷ []) (hemv_shape a x y) y
    → FoldedReady (hemv_plan uplo a x y) la lx ly × ByRow (hemv_plan uplo a x y)
hemv-ready uplo a x y la lx ly h =
    let s = hemv-sizes a x y h.shape in
    let cx = column-accepted x lx s.1.vector h.each.1.0 in
    let cy = column-accepted y ly s.2.vector h.each.1.1.0 in (
      left-ready true uplo a (column_of x) (column_of y) la lx ly a.rows h.each.0 cx cy refl s.0 s.2.length s.1.length refl,
      left-by-row true uplo a (column_of x) (column_of y) la lx ly a.rows h.each.0 cx cy refl s.0 s.2.length,
    )

pub sided-ready : (side : Side) (conj : Bool) (uplo : UpLo) (a b c : View) (la lb lc : ℕ)
    → Passed (arg a la ∷ arg b lb ∷ arg c lc ∷ []) (symm_shape side a b c) c → ReadySided side conj uplo a la b lb c lc
sided-ready Left conj uplo a b c la lb lc h =
    let s = symm-sizes Left a b c h.shape in (
      left-ready conj uplo a b c la lb lc c.rows h.each.0 h.each.1.0 h.each.1.1.0 s.0 s.1 refl s.2 s.3,
      left-by-row conj uplo a b c la lb lc c.rows h.each.0 h.each.1.0 h.each.1.1.0 s.0 s.1 refl,
    )
sided-ready Right conj uplo a b c la lb lc h =
    let s = symm-sizes Right a b c h.shape in
    right-ready conj uplo a b c la lb lc c.cols h.each.0 h.each.1.0 h.each.1.1.0 s.0 s.1 refl s.2 s.3
