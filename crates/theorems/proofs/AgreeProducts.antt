-- What gemv, gemm, hemv, symm and hemm can see of A, at every setting of their flags: over any number kind with its laws. A is read in some way and
-- stands on a side of the other factor; a unit vector there shows one element of the reading.
use Prim.Native.Nat.{ℕ, ◌≤◌, ◌<◌}
use mathlib.Core.Bool.{Bool, true, false, cond, ◌&&◌}
use mathlib.Core.List.{List, [], ◌∷◌}
use mathlib.Core.Path.{◌≡◌, refl, sym, subst, ◌∙◌}
use native.Mathlib.Nat.{mul-zero}
use native.Mathlib.Omega.{arith}
use lib.Dec.{eqb}
use borrow.Author.Tests.{eq-eqb}
use Rattle.number.specs.Kind.{Kind, Same, Holds, Finite}
use Rattle.number.specs.Laws.{Laws}
use Rattle.number.specs.Scaling.{scaled}
use Rattle.theorems.proofs.Words.{View, Trans, NoTrans, Transposed, ConjTrans, UpLo, Side, Left, Right}
use Rattle.view.specs.Place.{index}
use Rattle.view.specs.Refusals.{limit}
use Rattle.view.specs.Steps.{Accepted}
use Rattle.view.specs.Judge.{arg}
use Rattle.view.specs.Checks.{op_rows, op_cols, order_of, shaped, vector_of, gemv_shape, trmv_shape, hemv_shape, gemm_shape, trmm_shape, symm_shape}
use Rattle.view.specs.Vector.{column_of}
use Rattle.view.proofs.AnyLaws.{and_both}
use Rattle.view.proofs.JudgeLaws.{gemv-sizes, hemv-sizes, gemm-sizes, symm-sizes}
use Rattle.slabs.specs.Elem.{Lent, lent}
use Rattle.slabs.specs.Update.{Mask, everywhere, update}
use Rattle.slabs.proofs.UpdateLaws.{update-same-slab}
use Rattle.blas.specs.Matrix.{Matrix, matrix, vector, op, symmetric, hermitian, sum, accumulate}
use Rattle.blas.specs.Substitution.{unknown}
use Rattle.blas.specs.Gemv.{gemv}
use Rattle.blas.specs.Gemm.{gemm}
use Rattle.blas.specs.Hemv.{hemv}
use Rattle.blas.specs.Symm.{symm}
use Rattle.blas.specs.Hemm.{hemm}
use Rattle.theorems.specs.Agreement.{General, Square, SameShape, whole_matrix, triangle, Others, run, Sees, ProductsSee}
use Rattle.theorems.specs.ExactProducts.{on_side}
use Rattle.theorems.proofs.Respects.{Below, Fit, same-respected, sum-respects, Reading, Faithful, reading-by, same-shown, op_same, op_le, op-faithful, symmetric-faithful, hermitian-faithful}
use Rattle.theorems.proofs.Triangles.{times, times-cong, unknown_in, unknown-lt, beside}
use Rattle.theorems.proofs.AgreeCalls.{Routine, worked, Plain, updated, updates-see, Picks, sum-picks, line, strip, line-index, Fair, strip-fair, vector_line, line-column-index, shaped-as, Strip, strip-strip, vector-strip, row_at, col_at, strip-shown, unknown-same, Zeros, UnitIn, unit_slab, unit-count, unit-held, unit_size, unit-picks}

-- ---- A on a side of the other factor

-- the reading's element that the target's unknown u takes in its p-th term, and the reading's shape, with as many unknowns and terms
abbrev facing : (K : Kind) → Side → Matrix K → Matrix K
facing K Left a u p = a u p
facing K Right a u p = a p u

abbrev read_rows : Side → ℕ → ℕ → ℕ
read_rows Left order n = order
read_rows Right order n = n

abbrev read_cols : Side → ℕ → ℕ → ℕ
read_cols Left order n = n
read_cols Right order n = order

sided-is : (K : Kind) (side : Side) (n : ℕ) (a b : Matrix K) (i j : ℕ)
    → on_side K side n a b i j ≡ sum K n (λ p. times K side (facing K side a (unknown_in side i j) p) (beside K side b i j p))
sided-is K Left n a b i j = refl
sided-is K Right n a b i j = refl

-- a unit vector beside it shows the reading's element in the target's first line
line-picks : (K : Kind) → Laws K → (side : Side) (n : ℕ) (a b : Matrix K) (u q : ℕ) → q < n
    → Picks K n q (beside K side b (row_at side u) (col_at side u))
    → ((p : ℕ) → p < n → Finite K (facing K side a u p)) → Holds K (facing K side a u q)
    → Same K (on_side K side n a b (row_at side u) (col_at side u)) (facing K side a u q)
line-picks K L Left n a b u q h e f v = sum-picks K L Left n q (λ p. a u p) (λ p. b p 0) h e f v
line-picks K L Right n a b u q h e f v = sum-picks K L Right n q (λ p. a p u) (λ p. b 0 p) h e f v

-- the unknown and the term that have the reading's element (r, c)
aim : (K : Kind) (side : Side) (order n r c : ℕ) → r < read_rows side order n → c < read_cols side order n
    → (u : ℕ) × (q : ℕ) × (u < order) × (q < n) × ((a : Matrix K) → facing K side a u q ≡ a r c)
aim K Left order n r c p q = (r, c, p, q, λ a. refl)
aim K Right order n r c p q = (c, r, q, p, λ a. refl)

facing-by : {names : Mask} {v : View} {reading : Reading} (K : Kind) (side : Side) (order n : ℕ)
    → Faithful names v (read_rows side order n) (read_cols side order n) reading
    → (R : K.Elem → K.Elem → Type 0) → ((x y : K.Elem) → R x y → R (K.conj x) (K.conj y)) → (a a' : Matrix K)
    → Below R names v.rows v.cols a a'
    → (u p : ℕ) → u < order → p < n → R (facing K side (reading K a) u p) (facing K side (reading K a') u p)
facing-by K Left order n F R turn a a' h u p l q = reading-by F R turn a a' h u p l q
facing-by K Right order n F R turn a a' h u p l q = reading-by F R turn a a' h p u q l

-- ---- a product

-- the side of A, the shape rule of the views of A, the right-hand side and the target, the target as it is written, how many terms an
-- element's sum has, the reading of A, and the other factor
record Factors (K : Kind) : Type 1 where
  side : Side
  shapes : View → View → View → Bool
  written : View → View
  terms : View → View → ℕ
  reading : Reading
  other : Lent K → Matrix K

module _ {K : Kind} (f : Factors K) where
  abbrev routine : Routine K (Others K)
  routine = record {
    others = λ o. arg o.rhs.view (K.count o.rhs.slab) ∷ arg o.target.view (K.count o.target.slab) ∷ [];
    shapes = λ v o. f.shapes v o.rhs.view o.target.view;
    target = λ o. o.target.view;
    entry = λ o. o.target.slab;
  }

  -- the target's slab after a call that is not refused
  abbrev done : View → Matrix K → Others K → List K.Cell
  done v a o =
      update K (f.written o.target.view) everywhere
      (accumulate K (scaled K o.beta) (K.mul o.alpha) (on_side K f.side (f.terms v o.target.view) (f.reading K a) (f.other o.rhs)))
      o.target.slab

  -- a right-hand side, and a target of m elements, that fit a matrix seen through v
  record Probe (v : View) : Type 0 where
    rhs : View
    target : View
    m : ℕ
    rhs-fair : Fair rhs (f.terms v target)
    target-fair : Fair target m
    shapes : f.shapes v rhs target ≡ true
    written : Strip f.side (f.written target) m
    -- where the right-hand side's slab has a unit vector, the other factor shows it in the first line
    picks : (e : List K.Cell) (q : ℕ) → UnitIn K e (f.terms v target) q → (u : ℕ)
        → Picks K (f.terms v target) q (beside K f.side (f.other (lent K e rhs)) (row_at f.side u) (col_at f.side u))

  -- the reading of a matrix seen through v, beside the target c, in sums of n terms
  abbrev Read : Mask → View → View → ℕ → Type 1
  Read names v c n = Faithful names v (read_rows f.side (order_of f.side (f.written c)) n) (read_cols f.side (order_of f.side (f.written c)) n) f.reading

  -- what is asked of a product
  record Reads (Form : View → Type 0) (names : Mask) : Type 1 where
    terms-same : (v v' c : View) → SameShape v v' → f.terms v c ≡ f.terms v' c
    shapes-same : (v v' b c : View) → SameShape v v' → f.shapes v b c ≡ f.shapes v' b c
    faithful : (v b c : View) → f.shapes v b c ≡ true → Read names v c (f.terms v c)
    probe : (v : View) → Form v → v.rows ≤ limit → v.cols ≤ limit → Probe v

-- scaling by one beta
scaled-cong : (K : Kind) → Laws K → (beta : K.Elem) {x y : K.Elem} → Same K x y → Same K (scaled K beta x) (scaled K beta y)
scaled-cong K L beta {x} {y} h = at (K.is_zero beta) (K.is_one beta)
  where
    at : (z o : Bool) → Same K (cond z K.zero (cond o x (K.mul beta x))) (cond z K.zero (cond o y (K.mul beta y)))
    at true o = L.same_refl K.zero
    at false true = h
    at false false = L.mul-cong (L.same_refl beta) h

-- with alpha one and beta zero the target's element becomes the product's
written : (K : Kind) → Laws K → (old p x : K.Elem) → Holds K x → Finite K x → Same K p x
    → Same K (K.add (scaled K K.zero old) (K.mul K.one p)) x
written K L old p x v f h =
    rw L.zero-is-zero
    (L.same-trans (L.add_cong (L.same_refl K.zero) (L.same-trans (L.mul-cong (L.same_refl K.one) h) (L.one-mul v f))) (L.zero-add v))

module _ {K : Kind} (L : Laws K) (Z : Zeros K) (f : Factors K) (Form : View → Type 0) (names : Mask) (P : Reads f Form names) where
  -- agreement gives the same numbers
  done-same : (v v' : View) (a a' : Matrix K) (o : Others K) → SameShape v v' → f.shapes v o.rhs.view o.target.view ≡ true
      → Below (Same K) names v.rows v.cols a a' → (i j : ℕ) → i < (f.written o.target.view).rows → j < (f.written o.target.view).cols
      → Same K (on_side K f.side (f.terms v o.target.view) (f.reading K a) (f.other o.rhs) i j)
      (on_side K f.side (f.terms v' o.target.view) (f.reading K a') (f.other o.rhs) i j)
  done-same v v' a a' o w s h i j p q =
      let n = f.terms v o.target.view in
      let t = f.written o.target.view in
      subst (λ (k : ℕ). Same K (on_side K f.side n (f.reading K a) (f.other o.rhs) i j) (on_side K f.side k (f.reading K a') (f.other o.rhs) i j))
      (P.terms-same v v' o.target.view w)
      (rw (sided-is K f.side n (f.reading K a) (f.other o.rhs) i j, sided-is K f.side n (f.reading K a') (f.other o.rhs) i j)
      (sum-respects (same-respected K L) n 0 _ _
      (λ k l. times-cong K L f.side
      (facing-by K f.side (order_of f.side t) n (P.faithful v o.rhs.view o.target.view s) (Same K) (λ x y. L.conj-cong) a a' h
      _ k (unknown-lt f.side t i j p q) l)
      (L.same_refl _))
      (omega (arith, mul-zero n))))

  module _ (v : View) (b : Probe f v) (q : ℕ) (hq : q < f.terms v b.target) where
    abbrev terms : ℕ
    terms = f.terms v b.target

    -- alpha one and beta zero; the right-hand side shows the q-th unit vector, the target zeros
    abbrev call : Others K
    call = record {
      alpha = K.one;
      beta = K.zero;
      rhs = lent K (unit_slab K L Z terms q) b.rhs;
      target = lent K (Z.slab b.m) b.target;
      alpha-holds = L.one_holds;
      beta-holds = L.zero-holds;
      rhs-lendable = record { numbers = unit-held K L Z terms q; size = unit_size K L Z terms q b.rhs-fair.small; words = b.rhs-fair.words };
      target-lendable = record { numbers = Z.held b.m; size = Z.size b.m b.target-fair.small; words = b.target-fair.words };
    }

    -- the target's unknown u shows the reading's element
    value : (v' : View) (a : Matrix K) → f.shapes v' b.rhs b.target ≡ true → f.terms v' b.target ≡ terms
        → Fit K names v'.rows v'.cols a → (u : ℕ) → u < b.m
        → Same K (unknown K f.side (done f v' a call) (f.written b.target) u 0) (facing K f.side (f.reading K a) u q)
    value v' a s e fit u hu =
        let F = subst (Read f names v' b.target) e (P.faithful v' b.rhs b.target s) in
        let hu' : u < order_of f.side (f.written b.target) = subst (λ (k : ℕ). u < k) (sym b.written.order) hu in
        let holds = facing-by K f.side _ terms F (λ x y. Holds K x) (λ x y. L.conj-holds) a a (λ i j p q m. fit.holds i j) u q hu' hq in
        let finite : (p : ℕ) → p < terms → Finite K (facing K f.side (f.reading K a) u p) = λ p hp.
        facing-by K f.side _ terms F (λ x y. Finite K x) (λ x y. L.conj-finite) a a fit.finite u p hu' hp
        in
        let r = f.other (lent K (unit_slab K L Z terms q) b.rhs) in
        rw (
          strip-shown K L f.side (f.written b.target) b.m b.written (Z.slab b.m) (Z.count b.m)
              (accumulate K (scaled K K.zero) (K.mul K.one) (on_side K f.side (f.terms v' b.target) (f.reading K a) r)) u hu,
          e,
        )
        (written K L _ _ _ holds (finite q hq)
        (line-picks K L f.side terms (f.reading K a) r u q hq (b.picks (unit_slab K L Z terms q) q (unit-picks K L Z terms q hq) u) finite holds))

  plain : Plain (routine f) (λ v a o. worked K (done f v a o)) Form names
  plain = record {
    shapes-same = λ v v' o w. P.shapes-same v v' o.rhs.view o.target.view w;
    work-same = λ v v' a a' o w s h. record {
      answer = refl;
      slab = update-same-slab K L.slab (f.written o.target.view) everywhere _ _
          (λ i j p q m x y e. L.add_cong (scaled-cong K L o.beta e) (L.mul-cong (L.same_refl o.alpha) (done-same v v' a a' o w s h i j p q))) o.target.slab;
    };
    shot = λ v a form p q fit r c n.
        let b = P.probe v form p q in
        let s = (P.faithful v b.rhs b.target b.shapes).spot r c n in
        let m = aim K f.side (order_of f.side (f.written b.target)) (f.terms v b.target) s.row s.col s.row_lt s.col-lt in
        let hu = subst (λ (k : ℕ). m.0 < k) b.written.order m.2 in
        record {
          call = call v b m.1 m.3;
          each = (
            subst (Accepted b.rhs) (sym (unit-count K L Z (f.terms v b.target) m.1)) b.rhs-fair.accepted,
            (subst (Accepted b.target) (sym (Z.count b.m)) b.target-fair.accepted, tt),
          );
          shape = b.shapes;
          apart = b.target-fair.apart;
          tells = λ v' a' w fit' o.
              same-shown K L f.reading s.row s.col r c s.shows a a'
              (rw (m.4 (f.reading K a), m.4 (f.reading K a')) at
              (L.same-trans (L.same-sym (value v b m.1 m.3 v a b.shapes refl fit m.0 hu))
              (L.same-trans (unknown-same L o f.side (f.written b.target) m.0)
              (value v b m.1 m.3 v' a' (sym (P.shapes-same v v' b.rhs b.target w) ∙ b.shapes) (sym (P.terms-same v v' b.target w)) fit' m.0 hu))));
        };
  }

  product-sees : Sees K (Others K) (updated (routine f) (done f)) Form names
  product-sees = updates-see L (routine f) (done f) Form names plain

-- ---- gemv and hemv: the right-hand side and the target are columns of n and of m elements

module _ (K : Kind) (reading : Reading) (shapes : View → View → View → Bool) (terms : View → ℕ) where
  abbrev on_vectors : Factors K
  on_vectors = record { side = Left; shapes = shapes; written = column_of; terms = λ v c. terms v; reading = reading; other = vector K }

  vectors-probe : (v : View) (m : ℕ) → m ≤ limit → terms v ≤ limit → shapes v (line (terms v) 1) (line m 1) ≡ true → Probe on_vectors v
  vectors-probe v m p q s = record {
    rhs = line (terms v) 1;
    target = line m 1;
    m = m;
    rhs-fair = strip-fair Left (terms v) q;
    target-fair = strip-fair Left m p;
    shapes = s;
    written = vector-strip m p;
    picks = λ e q i u. i (λ p. index (column_of (line (terms v) 1)) p 0) (λ p hp. line-column-index (terms v) p);
  }

module _ (K : Kind) (L : Laws K) (Z : Zeros K) where
  gemv-reads : (t : Trans) → Reads (on_vectors K (λ K. op K t) (gemv_shape t) (op_cols t)) General whole_matrix
  unfolding gemv_shape
  gemv-reads t = record {
    terms-same = λ v v' c w. (op_same t v v' w).1;
    shapes-same = λ v v' b c w. let e = op_same t v v' w in λ i. vector_of b (e.1 i) && vector_of c (e.0 i);
    faithful = λ v b c s. subst (λ (m : ℕ). Faithful whole_matrix v m (op_cols t v) (λ K. op K t)) (sym (gemv-sizes t v b c s).1.length) (op-faithful v t);
    probe = λ v form p q.
        let l = op_le t v p q in
        vectors-probe K (λ K. op K t) (gemv_shape t) (op_cols t) v (op_rows t v) l.0 l.1
        (and_both (vector_of (line (op_cols t v) 1) (op_cols t v)) (vector_of (line (op_rows t v) 1) (op_rows t v)) (vector_line (op_cols t v)) (vector_line (op_rows t v)));
  }

  gemv-sees : (trans : Trans) → Sees K (Others K) (run K (gemv K trans)) General whole_matrix
  unfolding gemv
  gemv-sees t = product-sees L Z (on_vectors K (λ K. op K t) (gemv_shape t) (op_cols t)) General whole_matrix (gemv-reads t)

  hemv-reads : (uplo : UpLo) → Reads (on_vectors K (λ K. hermitian K uplo) hemv_shape (λ v. v.rows)) Square (triangle uplo)
  unfolding hemv_shape trmv_shape
  hemv-reads uplo = record {
    terms-same = λ v v' c w. w.rows;
    shapes-same = λ v v' b c w. λ i. (eqb (w.rows i) (w.rows i) && eqb (w.cols i) (w.rows i)) && vector_of b (w.rows i) && vector_of c (w.rows i);
    faithful = λ v b c s.
        let z = hemv-sizes v b c s in
        subst (λ (m : ℕ). Faithful (triangle uplo) v m v.rows (λ K. hermitian K uplo)) (sym z.2.length) (hermitian-faithful uplo v v.rows refl z.0);
    probe = λ v form p q.
        let n = v.rows in
        vectors-probe K (λ K. hermitian K uplo) hemv_shape (λ v. v.rows) v n p p
        (and_both (trmv_shape v (line n 1)) (vector_of (line n 1) n)
        (and_both (shaped v n n) (vector_of (line n 1) n) (shaped-as v n n refl (sym form)) (vector_line n))
        (vector_line n));
  }

  hemv-sees : (uplo : UpLo) → Sees K (Others K) (run K (hemv K uplo)) Square (triangle uplo)
  unfolding hemv
  hemv-sees uplo = product-sees L Z (on_vectors K (λ K. hermitian K uplo) hemv_shape (λ v. v.rows)) Square (triangle uplo) (hemv-reads uplo)

-- ---- gemm: the right-hand side is a column of op(B), which is a row of B where that is a transpose

-- the side on which a line of B is read so
abbrev turned : Trans → Side
turned NoTrans = Left
turned Transposed = Right
turned ConjTrans = Right

turned-sizes : (t : Trans) (n : ℕ) → (n ≡ op_rows t (strip (turned t) n)) × (1 ≡ op_cols t (strip (turned t) n))
turned-sizes NoTrans n = (refl, refl)
turned-sizes Transposed n = (refl, refl)
turned-sizes ConjTrans n = (refl, refl)

module _ (K : Kind) (L : Laws K) where
  -- a unit vector in a line
  side-picks : (side : Side) (n k q u : ℕ) (e : List K.Cell) → UnitIn K e k q
      → Picks K k q (beside K side (matrix K (lent K e (strip side n))) (row_at side u) (col_at side u))
  side-picks Left n k q u e i = i (λ p. index (line n 1) p 0) (λ p l. let z = line-index n 1 p 0 in omega arith)
  side-picks Right n k q u e i = i (λ p. index (line 1 n) 0 p) (λ p l. let z = line-index 1 n 0 p in omega arith)

  turned-picks : (t : Trans) (n q u : ℕ) (e : List K.Cell) → UnitIn K e n q
      → Picks K n q (λ p. op K t (matrix K (lent K e (strip (turned t) n))) p 0)
  turned-picks NoTrans n q u e i = side-picks Left n n q u e i
  turned-picks Transposed n q u e i = side-picks Right n n q u e i
  turned-picks ConjTrans n q u e i =
      let s = side-picks Right n n q u e i in
      record { here = L.same-trans (L.conj-cong s.here) L.conj-one; other = λ p h o. L.same-trans (L.conj-cong (s.other p h o)) L.conj-zero }

  abbrev on_matrices : Trans → Trans → Factors K
  on_matrices ta tb =
      record { side = Left; shapes = gemm_shape ta tb; written = λ c. c; terms = λ v c. op_cols ta v; reading = λ K. op K ta; other = λ b. op K tb (matrix K b) }

  gemm-reads : (ta tb : Trans) → Reads (on_matrices ta tb) General whole_matrix
  unfolding gemm_shape
  gemm-reads ta tb = record {
    terms-same = λ v v' c w. (op_same ta v v' w).1;
    shapes-same = λ v v' b c w. let e = op_same ta v v' w in λ i. eqb (e.1 i) (op_rows tb b) && shaped c (e.0 i) (op_cols tb b);
    faithful = λ v b c s. subst (λ (m : ℕ). Faithful whole_matrix v m (op_cols ta v) (λ K. op K ta)) (sym (gemm-sizes ta tb v b c s).1) (op-faithful v ta);
    probe = λ v form p q.
        let l = op_le ta v p q in
        let m = op_rows ta v in
        let n = op_cols ta v in
        let b = strip (turned tb) n in
        let z = turned-sizes tb n in
        record {
          rhs = b;
          target = line m 1;
          m = m;
          rhs-fair = strip-fair (turned tb) n l.1;
          target-fair = strip-fair Left m l.0;
          shapes = and_both (eqb n (op_rows tb b)) (shaped (line m 1) m (op_cols tb b)) (eq-eqb n (op_rows tb b) z.0) (shaped-as (line m 1) m (op_cols tb b) refl z.1);
          written = strip-strip Left m l.0;
          picks = λ e q i u. turned-picks tb n q u e i;
        };
  }

  gemm-sees : Zeros K → (ta tb : Trans) → Sees K (Others K) (run K (gemm K ta tb)) General whole_matrix
  unfolding gemm
  gemm-sees Z ta tb = product-sees L Z (on_matrices ta tb) General whole_matrix (gemm-reads ta tb)

-- ---- symm and hemm: a column of B where A is on the left, a row where it is on the right

module _ (K : Kind) (L : Laws K) (uplo : UpLo) (reading : Reading)
    (F : (v : View) (n : ℕ) → v.rows ≡ n → v.cols ≡ n → Faithful (triangle uplo) v n n reading) where
  abbrev on_aside : Side → Factors K
  on_aside side = record { side = side; shapes = symm_shape side; written = λ c. c; terms = λ v c. order_of side c; reading = reading; other = matrix K }

  square-read : (side : Side) (v : View) (n : ℕ) → Faithful (triangle uplo) v n n reading
      → Faithful (triangle uplo) v (read_rows side n n) (read_cols side n n) reading
  square-read Left v n h = h
  square-read Right v n h = h

  side-reads : (side : Side) → Reads (on_aside side) Square (triangle uplo)
  unfolding symm_shape trmm_shape
  side-reads side = record {
    terms-same = λ v v' c w. refl;
    shapes-same = λ v v' b c w. λ i. (eqb (w.rows i) (order_of side c) && eqb (w.cols i) (order_of side c)) && shaped b c.rows c.cols;
    faithful = λ v b c s. let z = symm-sizes side v b c s in square-read side v (order_of side c) (F v (order_of side c) z.0 z.1);
    probe = λ v form p q.
        let n = v.rows in
        let b = strip side n in
        let e = sym (strip-strip side n p).order in
        record {
          rhs = b;
          target = b;
          m = n;
          rhs-fair = subst (Fair b) e (strip-fair side n p);
          target-fair = strip-fair side n p;
          shapes = and_both (trmm_shape side v b) (shaped b b.rows b.cols)
              (shaped-as v (order_of side b) (order_of side b) e (sym form ∙ e))
              (shaped-as b b.rows b.cols refl refl);
          written = strip-strip side n p;
          picks = λ s q i u. side-picks K L side n (order_of side b) q u s i;
        };
  }

  side-sees : Zeros K → (side : Side) → Sees K (Others K) (updated (routine (on_aside side)) (done (on_aside side))) Square (triangle uplo)
  side-sees Z side = product-sees L Z (on_aside side) Square (triangle uplo) (side-reads side)

module _ (K : Kind) (L : Laws K) (Z : Zeros K) where
  symm-sees : (side : Side) (uplo : UpLo) → Sees K (Others K) (run K (symm K side uplo)) Square (triangle uplo)
  unfolding symm
  symm-sees Left uplo = side-sees K L uplo (λ K. symmetric K uplo) (symmetric-faithful uplo) Z Left
  symm-sees Right uplo = side-sees K L uplo (λ K. symmetric K uplo) (symmetric-faithful uplo) Z Right

  hemm-sees : (side : Side) (uplo : UpLo) → Sees K (Others K) (run K (hemm K side uplo)) Square (triangle uplo)
  unfolding hemm
  hemm-sees Left uplo = side-sees K L uplo (λ K. hermitian K uplo) (hermitian-faithful uplo) Z Left
  hemm-sees Right uplo = side-sees K L uplo (λ K. hermitian K uplo) (hermitian-faithful uplo) Z Right

pub products-see : (K : Kind) → Laws K → Zeros K → ProductsSee K
products-see K L Z =
    record { gemv-sees = gemv-sees K L Z; gemm-sees = gemm-sees K L Z; hemv-sees = hemv-sees K L Z; symm-sees = symm-sees K L Z; hemm-sees = hemm-sees K L Z }
