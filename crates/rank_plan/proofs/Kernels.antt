-- What each routine's kernel has to show at its two ways out, over any number kind: refused, it has its check's answer and has left the
-- target alone; else it has updated the target.
use Prim.Native.Nat.{ℕ}
use mathlib.Core.Bool.{Bool, true, false}
use mathlib.Core.List.{List, [], ◌∷◌}
use mathlib.Core.Path.{◌≡◌, refl, ap, ◌∙◌}
use Rattle.number.specs.Kind.{Kind, Numbers, kind}
use Rattle.number.specs.Scaling.{scaled, scaled_real, Multipliers, beta_of, beta_real_of, scale_by}
use Rattle.number.specs.declared.Beta.{Beta}
use Rattle.number.proofs.ScalingLaws.{scale-by, scale-by-real}
use Rattle.view.specs.declared.View.{View}
use Rattle.view.specs.declared.Answer.{Answer}
use Rattle.view.specs.declared.Trans.{Trans}
use Rattle.view.specs.declared.UpLo.{UpLo}
use Rattle.view.specs.Judge.{is_done, arg}
use Rattle.view.specs.Checks.{vector_of, op_cols, trmv_shape, hemv_shape, her_check, her2_check, syr2k_check, her2k_check}
use Rattle.view.proofs.JudgeLaws.{Passed, Vector, judge-passed, trmv-sizes, hemv-sizes}
use Rattle.view.specs.Triangle.{in_triangle}
use Rattle.view.specs.Vector.{column_of}
use Rattle.slabs.specs.Elem.{Lent, elem}
use Rattle.slabs.specs.Update.{update}
use Rattle.blas.specs.Matrix.{op, pair_sum}
use Rattle.blas.specs.Outcome.{Gives}
use Rattle.blas.specs.Her.{her, her_change}
use Rattle.blas.specs.Her2.{her2, her2_change}
use Rattle.blas.specs.Syr2k.{syr2k}
use Rattle.blas.specs.Her2k.{her2k}
use Rattle.blas.proofs.OpLaws.{op-elem}
use Rattle.blas.proofs.OutcomeLaws.{check_done, gives-work, gives-refusal}
use Rattle.rank_plan.specs.declared.plan.Plan.{Plan}
use Rattle.rank_plan.specs.declared.plan.Readings.{Readings}
use Rattle.rank_plan.specs.Plan.{paired_plan, syr2k_plan, her2k_plan, syr_readings, her_readings}
use Rattle.rank_plan.specs.Change.{Weights, sum_weighed, factors_weighed, pairs_at, syr2k_change, her2k_change}
use Rattle.rank_plan.specs.Ready.{Factors, Paired, Sized, SquareWithin}
use Rattle.rank_plan.proofs.Ready.{column-inside, paired-ready, syr-turned, her-turned}

-- ---- her

-- with lx and la elements in the slabs of x and of A
module _ (K : Kind) (uplo : UpLo) (alpha : K.Factor) (x a : Lent K) (lx la : ℕ) (ex : lx ≡ K.count x.slab) (ea : la ≡ K.count a.slab)
    (r : Answer) (flag : Bool) (answered : r ≡ her_check x.view lx a.view la) (told : flag ≡ is_done r) where
  her-answered : r ≡ her_check x.view (K.count x.slab) a.view (K.count a.slab)
  her-answered = answered ∙ (λ i. her_check x.view (ex i) a.view (ea i))

  her-passed : flag ≡ true → Passed (arg x.view (K.count x.slab) ∷ arg a.view (K.count a.slab) ∷ []) (trmv_shape a.view x.view) a.view
  her-passed h = judge-passed _ _ _ (check_done _ r flag her-answered told h)

  pub her_vector : flag ≡ true → vector_of x.view a.view.rows ≡ true
  her_vector h = (trmv-sizes a.view x.view (her-passed h).shape).1.shape

  pub her_column : flag ≡ true → (column : View) → column ≡ column_of x.view → Sized column (K.count x.slab) column.rows 1
  her_column h column e = rw e (column-inside _ _ _ (trmv-sizes a.view x.view (her-passed h).shape).1 (her-passed h).each.0)

  pub her_long : flag ≡ true → (column : View) → column ≡ column_of x.view → column.rows ≡ a.view.rows
  her_long h column e = rw e (trmv-sizes a.view x.view (her-passed h).shape).1.length

  pub her_square : flag ≡ true → SquareWithin a.view (K.count a.slab)
  her_square h = record { fits = (her-passed h).each.1.0; rows = refl; cols = (trmv-sizes a.view x.view (her-passed h).shape).0 }

  pub her_refused : flag ≡ false → Gives K (her K uplo alpha x a) r a.slab
  unfolding her
  her_refused h = gives-refusal K _ a.slab _ r flag her-answered told h

  -- the update, with x read through its column
  abbrev her-work : View → List K.Cell
  her-work column = update K a.view (in_triangle uplo) (her_change K alpha (elem K x.slab column)) a.slab

  pub her_done : flag ≡ true → (column : View) (after : List K.Cell) → column ≡ column_of x.view → after ≡ her-work column → Gives K (her K uplo alpha x a) r after
  unfolding her
  her_done passed column after planned e =
      gives-work K (her-work (column_of x.view)) a.slab _ r flag after her-answered told passed (e ∙ ap her-work planned)

-- ---- her2

module _ (K : Kind) (uplo : UpLo) (alpha : K.Elem) (x y a : Lent K) (lx ly la : ℕ) (ex : lx ≡ K.count x.slab) (ey : ly ≡ K.count y.slab) (ea : la ≡ K.count a.slab)
    (r : Answer) (flag : Bool) (answered : r ≡ her2_check x.view lx y.view ly a.view la) (told : flag ≡ is_done r) where
  her2-answered : r ≡ her2_check x.view (K.count x.slab) y.view (K.count y.slab) a.view (K.count a.slab)
  her2-answered = answered ∙ (λ i. her2_check x.view (ex i) y.view (ey i) a.view (ea i))

  her2-passed : flag ≡ true → Passed (arg x.view (K.count x.slab) ∷ arg y.view (K.count y.slab) ∷ arg a.view (K.count a.slab) ∷ []) (hemv_shape a.view x.view y.view) a.view
  her2-passed h = judge-passed _ _ _ (check_done _ r flag her2-answered told h)

  her2-sizes : flag ≡ true → (a.view.cols ≡ a.view.rows) × Vector x.view a.view.rows × Vector y.view a.view.rows
  her2-sizes h = hemv-sizes a.view x.view y.view (her2-passed h).shape

  pub her2_vector_x : flag ≡ true → vector_of x.view a.view.rows ≡ true
  her2_vector_x h = (her2-sizes h).1.shape

  pub her2_vector_y : flag ≡ true → vector_of y.view a.view.rows ≡ true
  her2_vector_y h = (her2-sizes h).2.shape

  pub her2_column_x : flag ≡ true → (column : View) → column ≡ column_of x.view → Sized column (K.count x.slab) column.rows 1
  her2_column_x h column e = rw e (column-inside _ _ _ (her2-sizes h).1 (her2-passed h).each.0)

  pub her2_column_y : flag ≡ true → (column : View) → column ≡ column_of y.view → Sized column (K.count y.slab) column.rows 1
  her2_column_y h column e = rw e (column-inside _ _ _ (her2-sizes h).2 (her2-passed h).each.1.0)

  pub her2_long_x : flag ≡ true → (column : View) → column ≡ column_of x.view → column.rows ≡ a.view.rows
  her2_long_x h column e = rw e (her2-sizes h).1.length

  pub her2_long_y : flag ≡ true → (column : View) → column ≡ column_of y.view → column.rows ≡ a.view.rows
  her2_long_y h column e = rw e (her2-sizes h).2.length

  pub her2_square : flag ≡ true → SquareWithin a.view (K.count a.slab)
  her2_square h = record { fits = (her2-passed h).each.1.1.0; rows = refl; cols = (her2-sizes h).0 }

  pub her2_refused : flag ≡ false → Gives K (her2 K uplo alpha x y a) r a.slab
  unfolding her2
  her2_refused h = gives-refusal K _ a.slab _ r flag her2-answered told h

  abbrev her2-work : View → View → List K.Cell
  her2-work xc yc = update K a.view (in_triangle uplo) (her2_change K alpha (elem K x.slab xc) (elem K y.slab yc)) a.slab

  pub her2_done : flag ≡ true → (xc yc : View) (after : List K.Cell) → xc ≡ column_of x.view → yc ≡ column_of y.view → after ≡ her2-work xc yc
      → Gives K (her2 K uplo alpha x y a) r after
  unfolding her2
  her2_done passed xc yc after p q e =
      gives-work K (her2-work (column_of x.view) (column_of y.view)) a.slab _ r flag after her2-answered told passed (e ∙ (λ i. her2-work (p i) (q i)))

-- ---- the sums of syr2k and of her2k: what the plan reads is op(A) and op(B)

module _ (K : Kind) (uplo : UpLo) (t : Trans) (r : Readings) (a b : Lent K) (c : View) (i j n : ℕ) where
  abbrev paired : Plan
  paired = paired_plan uplo t r a.view b.view c

  read-pairs : (w : Weights K.Elem) → pairs_at K paired a.slab b.slab w i j n
      ≡ pair_sum K n
      (λ p. K.mul (w.left_a (op K r.left (elem K a.slab a.view) i p)) (op K r.right (elem K b.slab b.view) p j))
      (λ p. K.mul (w.left_b (op K r.left (elem K b.slab b.view) i p)) (op K r.right (elem K a.slab a.view) p j))
  read-pairs w s =
      pair_sum K n
      (λ p. K.mul (w.left_a (op-elem K a.slab r.left a.view i p s)) (op-elem K b.slab r.right b.view p j s))
      (λ p. K.mul (w.left_b (op-elem K b.slab r.left b.view i p s)) (op-elem K a.slab r.right a.view p j s))

-- ---- syr2k

module _ {C E F M : Type 0} (n : Numbers C E F) (m : Multipliers n M) (uplo : UpLo) (t : Trans) (alpha : E) (a b : Lent (kind n)) (beta : E) (c : Lent (kind n))
    (la lb lc : ℕ) (ea : la ≡ n.count a.slab) (eb : lb ≡ n.count b.slab) (ec : lc ≡ n.count c.slab)
    (r : Answer) (flag : Bool) (answered : r ≡ syr2k_check t a.view la b.view lb c.view lc) (told : flag ≡ is_done r) where
  syr2k-answered : r ≡ syr2k_check t a.view (n.count a.slab) b.view (n.count b.slab) c.view (n.count c.slab)
  syr2k-answered = answered ∙ (λ i. syr2k_check t a.view (ea i) b.view (eb i) c.view (ec i))

  syr2k-runs : flag ≡ true → (plan : Plan) → plan ≡ syr2k_plan uplo t a.view b.view c.view → Paired plan (n.count a.slab) (n.count b.slab) (n.count c.slab)
  syr2k-runs h plan planned =
      rw planned (paired-ready uplo t _ (syr-turned t) a.view b.view c.view _ _ _ (judge-passed _ _ _ (check_done _ r flag syr2k-answered told h)))

  pub syr2k_factors : flag ≡ true → (plan : Plan) → plan ≡ syr2k_plan uplo t a.view b.view c.view → Factors plan (n.count a.slab) (n.count b.slab)
  syr2k_factors h plan planned = (syr2k-runs h plan planned).factors

  pub syr2k_square : flag ≡ true → (plan : Plan) → plan ≡ syr2k_plan uplo t a.view b.view c.view → SquareWithin plan.target (n.count c.slab)
  syr2k_square h plan planned = (syr2k-runs h plan planned).target

  pub syr2k_refused : flag ≡ false → Gives (kind n) (syr2k (kind n) uplo t alpha a b beta c) r c.slab
  unfolding syr2k
  syr2k_refused h = gives-refusal (kind n) _ c.slab _ r flag syr2k-answered told h

  abbrev syr2k-work : (E → E) → Plan → List C
  syr2k-work by_beta plan = update (kind n) plan.target (in_triangle plan.uplo) (syr2k_change (kind n) plan a.slab b.slab alpha by_beta) c.slab

  pub syr2k_done : flag ≡ true → (judged : Beta M) (plan : Plan) (after : List C) → judged ≡ beta_of n m beta → plan ≡ syr2k_plan uplo t a.view b.view c.view
      → after ≡ syr2k-work (scale_by n m judged) plan → Gives (kind n) (syr2k (kind n) uplo t alpha a b beta c) r after
  unfolding syr2k
  syr2k_done passed judged plan after judging planned e =
      gives-work (kind n) _ c.slab _ r flag after syr2k-answered told passed
      (e
      ∙ (λ i. syr2k-work ((ap (scale_by n m) judging ∙ scale-by n m beta) i) (planned i))
      ∙ (λ s. update (kind n) c.view (in_triangle uplo)
      (λ i j old. n.add (scaled (kind n) beta old) (n.mul alpha (read-pairs (kind n) uplo t (syr_readings t) a b c.view i j (op_cols t a.view) (sum_weighed (kind n) alpha) s)))
      c.slab))

-- ---- her2k

module _ {C E F M : Type 0} (n : Numbers C E F) (m : Multipliers n M) (uplo : UpLo) (t : Trans) (alpha : E) (a b : Lent (kind n)) (beta : F) (c : Lent (kind n))
    (la lb lc : ℕ) (ea : la ≡ n.count a.slab) (eb : lb ≡ n.count b.slab) (ec : lc ≡ n.count c.slab)
    (r : Answer) (flag : Bool) (answered : r ≡ her2k_check t a.view la b.view lb c.view lc) (told : flag ≡ is_done r) where
  her2k-answered : r ≡ her2k_check t a.view (n.count a.slab) b.view (n.count b.slab) c.view (n.count c.slab)
  her2k-answered = answered ∙ (λ i. her2k_check t a.view (ea i) b.view (eb i) c.view (ec i))

  her2k-runs : flag ≡ true → (plan : Plan) → plan ≡ her2k_plan uplo t a.view b.view c.view → Paired plan (n.count a.slab) (n.count b.slab) (n.count c.slab)
  her2k-runs h plan planned =
      rw planned (paired-ready uplo t _ (her-turned t) a.view b.view c.view _ _ _ (judge-passed _ _ _ (check_done _ r flag her2k-answered told h)))

  pub her2k_factors : flag ≡ true → (plan : Plan) → plan ≡ her2k_plan uplo t a.view b.view c.view → Factors plan (n.count a.slab) (n.count b.slab)
  her2k_factors h plan planned = (her2k-runs h plan planned).factors

  pub her2k_square : flag ≡ true → (plan : Plan) → plan ≡ her2k_plan uplo t a.view b.view c.view → SquareWithin plan.target (n.count c.slab)
  her2k_square h plan planned = (her2k-runs h plan planned).target

  pub her2k_refused : flag ≡ false → Gives (kind n) (her2k (kind n) uplo t alpha a b beta c) r c.slab
  unfolding her2k
  her2k_refused h = gives-refusal (kind n) _ c.slab _ r flag her2k-answered told h

  abbrev her2k-work : (E → E) → Plan → List C
  her2k-work by_beta plan = update (kind n) plan.target (in_triangle plan.uplo) (her2k_change (kind n) plan a.slab b.slab alpha by_beta) c.slab

  pub her2k_done : flag ≡ true → (judged : Beta M) (plan : Plan) (after : List C) → judged ≡ beta_real_of n m beta → plan ≡ her2k_plan uplo t a.view b.view c.view
      → after ≡ her2k-work (scale_by n m judged) plan → Gives (kind n) (her2k (kind n) uplo t alpha a b beta c) r after
  unfolding her2k
  her2k_done passed judged plan after judging planned e =
      gives-work (kind n) _ c.slab _ r flag after her2k-answered told passed
      (e
      ∙ (λ i. her2k-work ((ap (scale_by n m) judging ∙ scale-by-real n m beta) i) (planned i))
      ∙ (λ s. update (kind n) c.view (in_triangle uplo)
      (λ i j old. n.add (scaled_real (kind n) beta old) (read-pairs (kind n) uplo t (her_readings t) a b c.view i j (op_cols t a.view) (factors_weighed (kind n) alpha) s))
      c.slab))
