-- What each routine's kernel has to show at its two ways out, over any number kind: refused, it has its check's answer and has left the
-- target alone; else it has run its plan.
use Prim.Native.Nat.{ℕ}
use mathlib.Core.Bool.{Bool, true, false}
use mathlib.Core.List.{List}
use mathlib.Core.Path.{◌≡◌, refl, ap, ◌∙◌}
use Rattle.number.specs.Kind.{Kind}
use Rattle.number.specs.Scaling.{scaled, scaled_real}
use Rattle.view.specs.declared.View.{View}
use Rattle.view.specs.declared.Answer.{Answer}
use Rattle.view.specs.declared.Trans.{Trans}
use Rattle.view.specs.declared.Trans.TheVariants.{NoTrans, Trans as Transposed, ConjTrans}
use Rattle.view.specs.declared.Side.{Side}
use Rattle.view.specs.declared.Side.TheVariants.{Left, Right}
use Rattle.view.specs.declared.UpLo.{UpLo}
use Rattle.view.specs.Judge.{is_done}
use Rattle.view.specs.Triangle.{in_triangle}
use Rattle.view.specs.Place.{op_view_of, is_conj}
use Rattle.view.specs.Vector.{column_of}
use Rattle.view.specs.Checks.{op_rows, op_cols, vector_of, gemv_check, hemv_check, gemm_check, symm_check, hemm_check, syrk_check, herk_check}
use Rattle.view.proofs.JudgeLaws.{judge-passed, gemv-sizes, hemv-sizes}
use Rattle.slabs.specs.Elem.{Lent, elem}
use Rattle.slabs.specs.Update.{Mask, everywhere, update}
use Rattle.blas.specs.Matrix.{op, dot, hermitian, accumulate}
use Rattle.blas.specs.Outcome.{Gives}
use Rattle.blas.specs.Gemv.{gemv}
use Rattle.blas.specs.Hemv.{hemv}
use Rattle.blas.specs.Gemm.{gemm}
use Rattle.blas.specs.Symm.{symm, symm_product}
use Rattle.blas.specs.Hemm.{hemm, hemm_product}
use Rattle.blas.specs.Syrk.{syrk, syrk_left, syrk_right}
use Rattle.blas.specs.Herk.{herk, herk_left, herk_right}
use Rattle.blas.proofs.OutcomeLaws.{check_done, gives-work, gives-refusal}
use Rattle.product_plan.specs.declared.plan.Plan.{Plan}
use Rattle.product_plan.specs.declared.plan.Folded.{Folded}
use Rattle.product_plan.specs.Plan.{plan_change, folded_change, PlanReady, FoldedReady, ByRow}
use Rattle.product_plan.specs.Plans.{op_plan, gemm_plan, gemv_plan, turned_plan, column_plan, left_plan, right_plan, hemv_plan, syrk_plan, herk_plan, sided_work, ReadySided}
use Rattle.product_plan.proofs.Products.{named, op-product, left-product, right-product}
use Rattle.product_plan.proofs.Ready.{gemm-ready, gemv-ready, hemv-ready, sided-ready, syrk-ready, herk-ready, target-square}

-- ---- what a plan that has run leaves is what the definition says

op-leaves : (K : Kind) (ta tb : Trans) (va vb : View) (n : ℕ) (vc : View) (a b c : List K.Cell) (mask : Mask) {plan : Plan} {f f' h h' : K.Elem → K.Elem}
    → plan ≡ op_plan ta tb va vb n vc → f ≡ f' → h ≡ h'
    → update K plan.target mask (plan_change K plan f h a b) c
    ≡ update K vc mask (accumulate K f' h' (dot K n (op K ta (elem K a va)) (op K tb (elem K b vb)))) c
op-leaves K ta tb va vb n vc a b c mask {f' = f'} {h' = h'} p q s =
    (λ i. update K (p i).target mask (plan_change K (p i) (q i) (s i) a b) c)
    ∙ (λ i. update K vc mask (accumulate K f' h' (op-product K ta tb va vb n vc a b i)) c)

module _ (K : Kind) (conj : Bool) (uplo : UpLo) (va vb : View) (n : ℕ) (vc : View) (a b c : List K.Cell) where
  left-leaves : (f h : K.Elem → K.Elem) → update K vc everywhere (folded_change K (left_plan conj uplo va vb n vc) f h a b) c
      ≡ update K vc everywhere (accumulate K f h (dot K n (named K conj uplo (elem K a va)) (elem K b vb))) c
  left-leaves f h = λ i. update K vc everywhere (accumulate K f h (left-product K conj va vb n vc a b uplo i)) c

  right-leaves : (f h : K.Elem → K.Elem) → update K vc everywhere (folded_change K (right_plan conj uplo va vb n vc) f h b a) c
      ≡ update K vc everywhere (accumulate K f h (dot K n (elem K b vb) (named K conj uplo (elem K a va)))) c
  right-leaves f h = λ i. update K vc everywhere (accumulate K f h (right-product K conj va vb n vc a b uplo i)) c

-- ---- gemm

-- the plan is that of op(A) and op(B)
pub gemm-planned : (ta tb : Trans) (a b c left right : View) (ca cb : Bool) (plan : Plan) → left ≡ op_view_of ta a → ca ≡ is_conj ta → right ≡ op_view_of tb b → cb ≡ is_conj tb
    → plan ≡ turned_plan ca left cb right c → plan ≡ gemm_plan ta tb a b c
gemm-planned ta tb a b c left right ca cb plan e d g f p = p ∙ (λ i. turned_plan (d i) (e i) (f i) (g i) c) ∙ same ta
  where
    same : (t : Trans) → turned_plan (is_conj t) (op_view_of t a) (is_conj tb) (op_view_of tb b) c ≡ gemm_plan t tb a b c
    same NoTrans = refl
    same Transposed = refl
    same ConjTrans = refl

module _ (ta tb : Trans) (a b c : View) (la lb lc : ℕ) (r : Answer) (flag : Bool)
    (answered : r ≡ gemm_check ta tb a la b lb c lc) (told : flag ≡ is_done r) (passed : flag ≡ true) where
  pub gemm-runs : (plan : Plan) → plan ≡ gemm_plan ta tb a b c → PlanReady plan la lb lc
  gemm-runs plan planned = rw planned (gemm-ready ta tb a b c la lb lc (judge-passed _ _ _ (check_done _ r flag answered told passed)))

module _ (K : Kind) (ta tb : Trans) (alpha : K.Elem) (a b : Lent K) (beta : K.Elem) (c : Lent K)
    (r : Answer) (flag : Bool) (answered : r ≡ gemm_check ta tb a.view (K.count a.slab) b.view (K.count b.slab) c.view (K.count c.slab)) (told : flag ≡ is_done r) where
  pub gemm-refused : flag ≡ false → Gives K (gemm K ta tb alpha a b beta c) r c.slab
  unfolding gemm
  gemm-refused h = gives-refusal K _ c.slab _ r flag answered told h

  pub gemm-done : flag ≡ true → (plan : Plan) (by_beta by_alpha : K.Elem → K.Elem) (after : List K.Cell) → plan ≡ gemm_plan ta tb a.view b.view c.view → by_beta ≡ scaled K beta → by_alpha ≡ K.mul alpha
      → after ≡ update K plan.target everywhere (plan_change K plan by_beta by_alpha a.slab b.slab) c.slab → Gives K (gemm K ta tb alpha a b beta c) r after
  unfolding gemm
  gemm-done passed plan by_beta by_alpha after planned scale weigh e =
      gives-work K
      (update K c.view everywhere (accumulate K (scaled K beta) (K.mul alpha) (dot K (op_cols ta a.view) (op K ta (elem K a.slab a.view)) (op K tb (elem K b.slab b.view)))) c.slab)
      c.slab _ r flag after answered told passed
      (e ∙ op-leaves K ta tb a.view b.view _ c.view a.slab b.slab c.slab everywhere planned scale weigh)

-- ---- gemv

-- the vector is not conjugated
pub gemv-plain : (t : Trans) (a x y : View) (plan : Plan) → plan ≡ gemv_plan t a x y → plan.factors.right_conj ≡ false
gemv-plain t a x y plan planned = ap (λ (q : Plan). q.factors.right_conj) planned

-- op(A)'s view has the sizes of op(A)
turned-vectors : (t : Trans) (a x y : View) → vector_of x (op_cols t a) ≡ true → vector_of y (op_rows t a) ≡ true
    → (vector_of x (op_view_of t a).cols ≡ true) × (vector_of y (op_view_of t a).rows ≡ true)
turned-vectors NoTrans a x y p q = (p, q)
turned-vectors Transposed a x y p q = (p, q)
turned-vectors ConjTrans a x y p q = (p, q)

pub gemv-planned : (t : Trans) (a x y left : View) (conj : Bool) (plan : Plan) → left ≡ op_view_of t a → conj ≡ is_conj t → plan ≡ column_plan conj left x y → plan ≡ gemv_plan t a x y
gemv-planned t a x y left conj plan e d p = gemm-planned t NoTrans a (column_of x) (column_of y) left (column_of x) conj false plan e d refl refl p

module _ (t : Trans) (a x y : View) (la lx ly : ℕ) (r : Answer) (flag : Bool)
    (answered : r ≡ gemv_check t a la x lx y ly) (told : flag ≡ is_done r) (passed : flag ≡ true) where
  -- both vectors are vectors
  pub gemv-vectors : (left : View) → left ≡ op_view_of t a → (vector_of x left.cols ≡ true) × (vector_of y left.rows ≡ true)
  gemv-vectors left turned =
      let s = gemv-sizes t a x y (judge-passed _ _ _ (check_done _ r flag answered told passed)).shape in
      rw turned (turned-vectors t a x y s.0.shape s.1.shape)

  pub gemv-runs : (plan : Plan) → plan ≡ gemv_plan t a x y → PlanReady plan la lx ly × (plan.target.cols ≡ 1)
  gemv-runs plan planned = rw planned (gemv-ready t a x y la lx ly (judge-passed _ _ _ (check_done _ r flag answered told passed)), refl)

module _ (K : Kind) (t : Trans) (alpha : K.Elem) (a x : Lent K) (beta : K.Elem) (y : Lent K)
    (r : Answer) (flag : Bool) (answered : r ≡ gemv_check t a.view (K.count a.slab) x.view (K.count x.slab) y.view (K.count y.slab)) (told : flag ≡ is_done r) where
  pub gemv-refused : flag ≡ false → Gives K (gemv K t alpha a x beta y) r y.slab
  unfolding gemv
  gemv-refused h = gives-refusal K _ y.slab _ r flag answered told h

  pub gemv-done : flag ≡ true → (plan : Plan) (by_beta by_alpha : K.Elem → K.Elem) (after : List K.Cell) → plan ≡ gemv_plan t a.view x.view y.view → by_beta ≡ scaled K beta → by_alpha ≡ K.mul alpha
      → after ≡ update K plan.target everywhere (plan_change K plan by_beta by_alpha a.slab x.slab) y.slab → Gives K (gemv K t alpha a x beta y) r after
  unfolding gemv
  gemv-done passed plan by_beta by_alpha after planned scale weigh e =
      gives-work K
      (update K (column_of y.view) everywhere (accumulate K (scaled K beta) (K.mul alpha) (dot K (op_cols t a.view) (op K t (elem K a.slab a.view)) (elem K x.slab (column_of x.view)))) y.slab)
      y.slab _ r flag after answered told passed
      (e ∙ op-leaves K t NoTrans a.view (column_of x.view) _ (column_of y.view) a.slab x.slab y.slab everywhere planned scale weigh)

-- ---- hemv

module _ (uplo : UpLo) (a x y : View) (la lx ly : ℕ) (r : Answer) (flag : Bool)
    (answered : r ≡ hemv_check a la x lx y ly) (told : flag ≡ is_done r) (passed : flag ≡ true) where
  -- both vectors are vectors
  pub hemv-vectors : (vector_of x a.rows ≡ true) × (vector_of y a.rows ≡ true)
  hemv-vectors =
      let s = hemv-sizes a x y (judge-passed _ _ _ (check_done _ r flag answered told passed)).shape in
      (s.1.shape, s.2.shape)

  pub hemv-runs : (plan : Folded) → plan ≡ hemv_plan uplo a x y → FoldedReady plan la lx ly × ByRow plan × (plan.target.cols ≡ 1)
  hemv-runs plan planned =
      let h = hemv-ready uplo a x y la lx ly (judge-passed _ _ _ (check_done _ r flag answered told passed)) in
      rw planned (h.0, h.1, refl)

module _ (K : Kind) (uplo : UpLo) (alpha : K.Elem) (a x : Lent K) (beta : K.Elem) (y : Lent K)
    (r : Answer) (flag : Bool) (answered : r ≡ hemv_check a.view (K.count a.slab) x.view (K.count x.slab) y.view (K.count y.slab)) (told : flag ≡ is_done r) where
  pub hemv-refused : flag ≡ false → Gives K (hemv K uplo alpha a x beta y) r y.slab
  unfolding hemv
  hemv-refused h = gives-refusal K _ y.slab _ r flag answered told h

  pub hemv-done : flag ≡ true → (plan : Folded) (by_beta by_alpha : K.Elem → K.Elem) (after : List K.Cell) → plan ≡ hemv_plan uplo a.view x.view y.view → by_beta ≡ scaled K beta → by_alpha ≡ K.mul alpha
      → after ≡ update K plan.target everywhere (folded_change K plan by_beta by_alpha a.slab x.slab) y.slab → Gives K (hemv K uplo alpha a x beta y) r after
  unfolding hemv
  hemv-done passed plan by_beta by_alpha after planned scale weigh e =
      gives-work K
      (update K (column_of y.view) everywhere (accumulate K (scaled K beta) (K.mul alpha) (dot K a.view.rows (hermitian K uplo (elem K a.slab a.view)) (elem K x.slab (column_of x.view)))) y.slab)
      y.slab _ r flag after answered told passed
      (e
      ∙ (λ i. update K (planned i).target everywhere (folded_change K (planned i) (scale i) (weigh i) a.slab x.slab) y.slab)
      ∙ left-leaves K true uplo a.view (column_of x.view) _ (column_of y.view) a.slab x.slab y.slab (scaled K beta) (K.mul alpha))

-- ---- syrk

module _ (t : Trans) (a c : View) (la lc : ℕ) (r : Answer) (flag : Bool)
    (answered : r ≡ syrk_check t a la c lc) (told : flag ≡ is_done r) (passed : flag ≡ true) where
  pub syrk-runs : (plan : Plan) → plan ≡ syrk_plan t a c → PlanReady plan la la lc × (plan.target.rows ≡ plan.target.cols)
  syrk-runs plan planned = let h = judge-passed _ _ _ (check_done _ r flag answered told passed) in
      rw planned (syrk-ready t a c la lc h, target-square t a c la lc h)

module _ (K : Kind) (uplo : UpLo) (t : Trans) (alpha : K.Elem) (a : Lent K) (beta : K.Elem) (c : Lent K)
    (r : Answer) (flag : Bool) (answered : r ≡ syrk_check t a.view (K.count a.slab) c.view (K.count c.slab)) (told : flag ≡ is_done r) where
  pub syrk-refused : flag ≡ false → Gives K (syrk K uplo t alpha a beta c) r c.slab
  unfolding syrk
  syrk-refused h = gives-refusal K _ c.slab _ r flag answered told h

  pub syrk-done : flag ≡ true → (plan : Plan) (by_beta by_alpha : K.Elem → K.Elem) (after : List K.Cell) → plan ≡ syrk_plan t a.view c.view → by_beta ≡ scaled K beta → by_alpha ≡ K.mul alpha
      → after ≡ update K plan.target (in_triangle uplo) (plan_change K plan by_beta by_alpha a.slab a.slab) c.slab → Gives K (syrk K uplo t alpha a beta c) r after
  unfolding syrk
  syrk-done passed plan by_beta by_alpha after planned scale weigh e =
      gives-work K
      (update K c.view (in_triangle uplo) (accumulate K (scaled K beta) (K.mul alpha) (dot K (op_cols t a.view) (op K (syrk_left t) (elem K a.slab a.view)) (op K (syrk_right t) (elem K a.slab a.view)))) c.slab)
      c.slab _ r flag after answered told passed
      (e ∙ op-leaves K (syrk_left t) (syrk_right t) a.view a.view _ c.view a.slab a.slab c.slab (in_triangle uplo) planned scale weigh)

-- ---- herk

module _ (t : Trans) (a c : View) (la lc : ℕ) (r : Answer) (flag : Bool)
    (answered : r ≡ herk_check t a la c lc) (told : flag ≡ is_done r) (passed : flag ≡ true) where
  pub herk-runs : (plan : Plan) → plan ≡ herk_plan t a c → PlanReady plan la la lc × (plan.target.rows ≡ plan.target.cols)
  herk-runs plan planned = let h = judge-passed _ _ _ (check_done _ r flag answered told passed) in
      rw planned (herk-ready t a c la lc h, target-square t a c la lc h)

module _ (K : Kind) (uplo : UpLo) (t : Trans) (alpha : K.Factor) (a : Lent K) (beta : K.Factor) (c : Lent K)
    (r : Answer) (flag : Bool) (answered : r ≡ herk_check t a.view (K.count a.slab) c.view (K.count c.slab)) (told : flag ≡ is_done r) where
  pub herk-refused : flag ≡ false → Gives K (herk K uplo t alpha a beta c) r c.slab
  unfolding herk
  herk-refused h = gives-refusal K _ c.slab _ r flag answered told h

  pub herk-done : flag ≡ true → (plan : Plan) (by_beta by_alpha : K.Elem → K.Elem) (after : List K.Cell) → plan ≡ herk_plan t a.view c.view → by_beta ≡ scaled_real K beta → by_alpha ≡ K.scale_real alpha
      → after ≡ update K plan.target (in_triangle uplo) (plan_change K plan by_beta by_alpha a.slab a.slab) c.slab → Gives K (herk K uplo t alpha a beta c) r after
  unfolding herk
  herk-done passed plan by_beta by_alpha after planned scale weigh e =
      gives-work K
      (update K c.view (in_triangle uplo) (accumulate K (scaled_real K beta) (K.scale_real alpha) (dot K (op_cols t a.view) (op K (herk_left t) (elem K a.slab a.view)) (op K (herk_right t) (elem K a.slab a.view)))) c.slab)
      c.slab _ r flag after answered told passed
      (e ∙ op-leaves K (herk_left t) (herk_right t) a.view a.view _ c.view a.slab a.slab c.slab (in_triangle uplo) planned scale weigh)

-- ---- symm

pub symm-runs : (side : Side) (uplo : UpLo) (a b c : View) (la lb lc : ℕ) (r : Answer) (flag : Bool) → r ≡ symm_check side a la b lb c lc → flag ≡ is_done r → flag ≡ true
    → ReadySided side false uplo a la b lb c lc
symm-runs side uplo a b c la lb lc r flag answered told passed =
    sided-ready side false uplo a b c la lb lc (judge-passed _ _ _ (check_done _ r flag answered told passed))

module _ (K : Kind) (side : Side) (uplo : UpLo) (alpha : K.Elem) (a b : Lent K) (beta : K.Elem) (c : Lent K)
    (r : Answer) (flag : Bool) (answered : r ≡ symm_check side a.view (K.count a.slab) b.view (K.count b.slab) c.view (K.count c.slab)) (told : flag ≡ is_done r) where
  pub symm-refused : flag ≡ false → Gives K (symm K side uplo alpha a b beta c) r c.slab
  unfolding symm
  symm-refused h = gives-refusal K _ c.slab _ r flag answered told h

  pub symm-done : flag ≡ true → (by_beta by_alpha : K.Elem → K.Elem) (after : List K.Cell) → by_beta ≡ scaled K beta → by_alpha ≡ K.mul alpha
      → after ≡ sided_work K side false uplo a.view b.view c.view by_beta by_alpha a.slab b.slab c.slab
      → Gives K (symm K side uplo alpha a b beta c) r after
  unfolding symm
  symm-done passed by_beta by_alpha after scale weigh e =
      gives-work K (update K c.view everywhere (accumulate K (scaled K beta) (K.mul alpha) (symm_product K side uplo a b c)) c.slab) c.slab _ r flag after answered told passed
      (e ∙ (λ i. sided_work K side false uplo a.view b.view c.view (scale i) (weigh i) a.slab b.slab c.slab) ∙ same side)
    where
      same : (s : Side) → sided_work K s false uplo a.view b.view c.view (scaled K beta) (K.mul alpha) a.slab b.slab c.slab
          ≡ update K c.view everywhere (accumulate K (scaled K beta) (K.mul alpha) (symm_product K s uplo a b c)) c.slab
      same Left = left-leaves K false uplo a.view b.view _ c.view a.slab b.slab c.slab (scaled K beta) (K.mul alpha)
      same Right = right-leaves K false uplo a.view b.view _ c.view a.slab b.slab c.slab (scaled K beta) (K.mul alpha)

-- ---- hemm

pub hemm-runs : (side : Side) (uplo : UpLo) (a b c : View) (la lb lc : ℕ) (r : Answer) (flag : Bool) → r ≡ hemm_check side a la b lb c lc → flag ≡ is_done r → flag ≡ true
    → ReadySided side true uplo a la b lb c lc
hemm-runs side uplo a b c la lb lc r flag answered told passed =
    sided-ready side true uplo a b c la lb lc (judge-passed _ _ _ (check_done _ r flag answered told passed))

module _ (K : Kind) (side : Side) (uplo : UpLo) (alpha : K.Elem) (a b : Lent K) (beta : K.Elem) (c : Lent K)
    (r : Answer) (flag : Bool) (answered : r ≡ hemm_check side a.view (K.count a.slab) b.view (K.count b.slab) c.view (K.count c.slab)) (told : flag ≡ is_done r) where
  pub hemm-refused : flag ≡ false → Gives K (hemm K side uplo alpha a b beta c) r c.slab
  unfolding hemm
  hemm-refused h = gives-refusal K _ c.slab _ r flag answered told h

  pub hemm-done : flag ≡ true → (by_beta by_alpha : K.Elem → K.Elem) (after : List K.Cell) → by_beta ≡ scaled K beta → by_alpha ≡ K.mul alpha
      → after ≡ sided_work K side true uplo a.view b.view c.view by_beta by_alpha a.slab b.slab c.slab
      → Gives K (hemm K side uplo alpha a b beta c) r after
  unfolding hemm
  hemm-done passed by_beta by_alpha after scale weigh e =
      gives-work K (update K c.view everywhere (accumulate K (scaled K beta) (K.mul alpha) (hemm_product K side uplo a b c)) c.slab) c.slab _ r flag after answered told passed
      (e ∙ (λ i. sided_work K side true uplo a.view b.view c.view (scale i) (weigh i) a.slab b.slab c.slab) ∙ same side)
    where
      same : (s : Side) → sided_work K s true uplo a.view b.view c.view (scaled K beta) (K.mul alpha) a.slab b.slab c.slab
          ≡ update K c.view everywhere (accumulate K (scaled K beta) (K.mul alpha) (hemm_product K s uplo a b c)) c.slab
      same Left = left-leaves K true uplo a.view b.view _ c.view a.slab b.slab c.slab (scaled K beta) (K.mul alpha)
      same Right = right-leaves K true uplo a.view b.view _ c.view a.slab b.slab c.slab (scaled K beta) (K.mul alpha)
