-- What the Unit cases of trsv and trsm can see of A: over any number kind with its laws. Solves with two matrices that agree are the same; and the
-- right-hand side that shows column j of op(A) is that column: its solution is the j-th unit vector, and a matrix that has the same solution has the
-- same column.
use Prim.Native.Nat.{ℕ, zero, suc, ◌+◌, ◌-◌, ◌*◌, ◌≤◌, ◌<◌}
use mathlib.Core.Bool.{Bool, true, false, cond, ◌&&◌}
use mathlib.Core.List.{List}
use mathlib.Core.Path.{◌≡◌, refl, sym, subst, ◌∙◌, ap}
use native.Mathlib.Decide.{ℕ_discrete}
use native.Mathlib.Omega.{arith}
use native.Mathlib.Nat.{one-mul, mul-one}
use lib.Dec.{leb, ltb, eqb, lit≤}
use borrow.Author.Tests.{le-leb, leb-true, eq-eqb, ne_eqb}
use Rattle.number.specs.Kind.{Kind, Same, Holds, Finite}
use Rattle.number.specs.Laws.{Laws, SameSlab}
use Rattle.theorems.proofs.Words.{View, Trans, UpLo, Unit, Side, Left, Right}
use Rattle.view.specs.Any.{any}
use Rattle.view.specs.Checks.{order_of, trmv_shape, trmm_shape}
use Rattle.view.specs.Refusals.{Fits, limit}
use Rattle.view.specs.Vector.{column_of}
use Rattle.view.proofs.AnyLaws.{none, and_right, is_false, clash}
use Rattle.slabs.specs.Update.{Change, everywhere, update}
use Rattle.slabs.proofs.UpdateLaws.{count-update, length-update, update-held}
use Rattle.blas.specs.Matrix.{Matrix}
use Rattle.blas.specs.Substitution.{unknown_at, unknown, last_first, in_order, least_solved, turn_of, line_of, minus_terms, solve_one, solved, substituted}
use Rattle.blas.specs.Solves.{lines_of, formula}
use Rattle.blas.specs.Trsv.{trsv}
use Rattle.blas.specs.Trsm.{times_alpha, trsm}
use Rattle.blas.proofs.SubstitutionLaws.{in-order-lt, turn-lt, in-order-twice, before-earlier, minus-before}
use Rattle.blas.proofs.Elements.{fits-inside, apart_distinct}
use Rattle.blas.proofs.Solves.{all-solved}
use Rattle.theorems.specs.Agreement.{SameOutcome, Square, Sees}
use Rattle.theorems.specs.TriangularAgreement.{named, Single, run_plain, run_scaled}
use Rattle.theorems.proofs.Respects.{Below, Fit}
use Rattle.theorems.proofs.Triangles.{coefficient, times, brings-is, times-cong, times_zero, times-one, row_in, col_in, in_both, named_back, element-back, coefficient-by, coefficient-holds, coefficient-finite, takes, takes-order, named-takes, off-diagonal, named-off, unknown_in}
use Rattle.theorems.proofs.AgreeCalls.{worked, attempted, attempts-see, strip, Strip, strip-strip, vector-strip, row_at, col_at, strip-shown, Zeros}
use Rattle.theorems.proofs.AgreeTriangles.{InPlace, Tells, Keeps, routine, matrix-plain, vector-plain}

-- ---- differences

module _ (K : Kind) (L : Laws K) where
  minus-same : (x y : K.Elem) (f g : ℕ → K.Elem) (from n : ℕ) → Same K x y → ((p : ℕ) → from ≤ p → p < from + n → Same K (f p) (g p)) →
      Same K (minus_terms K x f from n) (minus_terms K y g from n)
  unfolding minus_terms
  minus-same x y f g from zero h e = h
  minus-same x y f g from (suc n) h e =
      L.sub-cong (minus-same x y f g from n h (λ p l m. e p l (omega arith))) (e (from + n) (omega arith) (omega arith))

  -- every term is zero
  minus-zero : (x : K.Elem) (f : ℕ → K.Elem) (from n : ℕ) → Holds K x → ((p : ℕ) → from ≤ p → p < from + n → Same K (f p) K.zero) →
      Same K (minus_terms K x f from n) x
  unfolding minus_terms
  minus-zero x f from zero v e = L.same_refl x
  minus-zero x f from (suc n) v e =
      L.same-trans (L.sub-cong (minus-zero x f from n v (λ p l m. e p l (omega arith))) (e (from + n) (omega arith) (omega arith))) (L.sub-zero v)

  -- one term is y, and every other is zero
  minus_one : (x y : K.Elem) (f : ℕ → K.Elem) (from n j : ℕ) → Holds K x → from ≤ j → j < from + n → Same K (f j) y →
      ((p : ℕ) → from ≤ p → p < from + n → (p ≡ j → ⊥) → Same K (f p) K.zero) → Same K (minus_terms K x f from n) (K.sub x y)
  unfolding minus_terms
  minus_one x y f from zero j v l m h e = absurd (nothing from j l m)
    where
      nothing : (from j : ℕ) → from ≤ j → j < from + 0 → ⊥
      nothing from j l m = omega arith
  minus_one x y f from (suc n) j v l m h e =
      at (ℕ_discrete (from + n) j) (λ q. minus_one x y f from n j v l q h (λ p l m. e p l (omega arith)))
    where
      at : Dec (from + n ≡ j) → (j < from + n → Same K (minus_terms K x f from n) (K.sub x y)) → Same K (minus_terms K x f from (suc n)) (K.sub x y)
      at (yes q) r =
          L.sub-cong (minus-zero x f from n v (λ p l m. e p l (omega arith) (omega arith))) (subst (λ (k : ℕ). Same K (f k) y) (sym q) h)
      at (no q) r =
          L.same-trans (L.sub-cong (r (omega arith)) (e (from + n) (omega arith) (omega arith) q)) (L.sub-zero (L.sub_holds x y))

-- ---- the unknowns solved before the one that is solved after k others

before-in : (last : Bool) (m k p : ℕ) → k < m → least_solved last m k ≤ p → p < least_solved last m k + k →
    (p < m) × (cond last (leb (in_order last m k) p) (leb p (in_order last m k)) ≡ true) × (in_order last m k ≡ p → ⊥)
before-in true m k p h l g = (omega arith, le-leb (m - suc k) p (omega arith), λ e. omega arith)
before-in false m k p h l g = (omega arith, le-leb p k (omega arith), λ e. omega arith)

in-before : (last : Bool) (m k p : ℕ) → k < m → p < m → cond last (leb (in_order last m k) p) (leb p (in_order last m k)) ≡ true →
    (in_order last m k ≡ p → ⊥) → (least_solved last m k ≤ p) × (p < least_solved last m k + k)
in-before true m k p h g t o = let l = leb-true (m - suc k) p t in (omega arith, omega arith)
in-before false m k p h g t o = let l = leb-true p k t in (omega arith, omega arith)

module _ (side : Side) (uplo : UpLo) (t : Trans) (m k : ℕ) where
  -- the unknown itself, and the least of those before it
  abbrev turn_unknown : ℕ
  turn_unknown = in_order (last_first side uplo t) m k

  abbrev first_before : ℕ
  first_before = least_solved (last_first side uplo t) m k

  -- are those that it takes, itself left out
  before-taken : k < m → (p : ℕ) → first_before ≤ p → p < first_before + k → (p < m) × (takes side uplo t turn_unknown p ≡ true) × (turn_unknown ≡ p → ⊥)
  before-taken h p l g =
      let b = before-in (last_first side uplo t) m k p h l g in
      (b.0, takes-order side uplo t turn_unknown p ∙ b.1, b.2)

  taken-before : k < m → (p : ℕ) → p < m → takes side uplo t turn_unknown p ≡ true → (turn_unknown ≡ p → ⊥) → (first_before ≤ p) × (p < first_before + k)
  taken-before h p g e o = in-before (last_first side uplo t) m k p h g (sym (takes-order side uplo t turn_unknown p) ∙ e) o

-- ---- a Unit solve is never singular

module _ (K : Kind) (side : Side) (uplo : UpLo) (t : Trans) (begin : K.Elem → K.Elem) (a : Matrix K) (v : View) (s : List K.Cell) where
  unit-solved : substituted K side uplo t Unit begin a v s ≡ worked K (solved K side uplo t Unit begin a v (v.rows * v.cols) s)
  unfolding substituted
  unit-solved =
      let some = ltb 0 (v.rows * v.cols) in
      let zeros = any (order_of side v) (λ q. false) in
      rw (is_false (some && zeros) (λ e. clash (and_right some zeros e) (none (order_of side v) (λ q. false) (λ k l. refl))))

-- ---- solves with two matrices that agree

module _ (K : Kind) (L : Laws K) (side : Side) (uplo : UpLo) (t : Trans) (begin : K.Elem → K.Elem)
    (start-cong : (x y : K.Elem) → Same K x y → Same K (begin x) (begin y)) (a a' : Matrix K) (v : View)
    (h : Below (Same K) (named uplo Unit) (order_of side v) (order_of side v) a a') where
  solve-same : (k l : ℕ) → k < order_of side v → (s s' : List K.Cell) → SameSlab K s s' →
      SameSlab K (solve_one K side uplo t Unit begin a v k l s) (solve_one K side uplo t Unit begin a' v k l s')
  unfolding solve_one
  solve-same k l g s s' e =
      L.slab.put_same (unknown_at side v q l) e
      (minus-same K L _ _ _ _ (first_before side uplo t m k) k (start-cong _ _ (L.slab.at_same (unknown_at side v q l) e))
      (λ p i j.
      let b = before-taken side uplo t m k g p i j in
      rw (brings-is K side t a q p (unknown K side s v p l), brings-is K side t a' q p (unknown K side s' v p l))
      (times-cong K L side
      (coefficient-by K K (Same K) (λ x y. L.conj-cong) (named uplo Unit) m side t q p (in-order-lt (last_first side uplo t) m k g) b.0 (off-diagonal side uplo t q p b.1 b.2) a a' h)
      (L.slab.at_same (unknown_at side v p l) e))))
    where
      m : ℕ
      m = order_of side v

      q : ℕ
      q = turn_unknown side uplo t m k

  solved-same : (n : ℕ) → n ≤ v.rows * v.cols → (s : List K.Cell) →
      SameSlab K (solved K side uplo t Unit begin a v n s) (solved K side uplo t Unit begin a' v n s)
  unfolding solved
  solved-same zero g s = L.slab.slab-refl s
  solved-same (suc n) g s =
      solve-same (turn_of side v n) (line_of side v n) (turn-lt side v n (omega arith)) _ _ (solved-same n (omega arith) s)

  substituted-same : (s : List K.Cell) →
      SameOutcome K (substituted K side uplo t Unit begin a v s) (substituted K side uplo t Unit begin a' v s)
  substituted-same s =
      rw (unit-solved K side uplo t begin a v s, unit-solved K side uplo t begin a' v s)
      (record { answer = refl; slab = solved-same (v.rows * v.cols) (omega arith) s })

-- x is number p of the j-th unit vector
record Delta (K : Kind) (j p : ℕ) (x : K.Elem) : Type 0 where
  here : p ≡ j → Same K x K.one
  other : (p ≡ j → ⊥) → Same K x K.zero

-- ---- column j of op(A)'s triangle (Right: row j), the diagonal ONE, and ZERO outside

module _ (K : Kind) (side : Side) (uplo : UpLo) (t : Trans) (a : Matrix K) (j : ℕ) where
  abbrev column_by : Bool → Bool → ℕ → K.Elem
  column_by diagonal inside p = cond diagonal K.one (cond inside (coefficient K side t a p j) K.zero)

  abbrev column : ℕ → K.Elem
  column p = column_by (eqb p j) (takes side uplo t p j) p

  column-here : (p : ℕ) → p ≡ j → column p ≡ K.one
  column-here p e = ap (λ (b : Bool). column_by b (takes side uplo t p j) p) (eq-eqb p j e)

  column-taken : (p : ℕ) → (p ≡ j → ⊥) → takes side uplo t p j ≡ true → column p ≡ coefficient K side t a p j
  column-taken p o e = λ i. column_by (ne_eqb p j o i) (e i) p

  column-zero : (p : ℕ) → (p ≡ j → ⊥) → takes side uplo t p j ≡ false → column p ≡ K.zero
  column-zero p o e = λ i. column_by (ne_eqb p j o i) (e i) p

  by-column : (P : K.Elem → Type 0) (p : ℕ) → P K.one → P K.zero →
      ((p ≡ j → ⊥) → takes side uplo t p j ≡ true → P (coefficient K side t a p j)) → P (column p)
  by-column P p at_one at_zero inside = at (ℕ_discrete p j) (takes side uplo t p j) refl
    where
      at : Dec (p ≡ j) → (b : Bool) → takes side uplo t p j ≡ b → P (column p)
      at (yes e) b m = rw (column-here p e) at_one
      at (no o) true m = rw (column-taken p o m) (inside o m)
      at (no o) false m = rw (column-zero p o m) at_zero

column-holds : (K : Kind) → Laws K → (side : Side) (uplo : UpLo) (t : Trans) (a : Matrix K) (j : ℕ) → ((i j : ℕ) → Holds K (a i j)) → (p : ℕ) →
    Holds K (column K side uplo t a j p)
column-holds K L side uplo t a j h p =
    by-column K side uplo t a j (Holds K) p L.one_holds L.zero-holds (λ o m. coefficient-holds K L side t p j a h)

-- ---- one line is solved unknown after unknown

strip-total : (side : Side) (v : View) → lines_of side v ≡ 1 → v.rows * v.cols ≡ order_of side v
strip-total Left v e = rw e (mul-one v.rows)
strip-total Right v e = rw e (one-mul v.cols)

module _ (K : Kind) (L : Laws K) (side : Side) (uplo : UpLo) (t : Trans) (begin : K.Elem → K.Elem) (v : View)
    (w : Strip side v (order_of side v)) where
  -- how many unknowns there are, the one that is solved after k others, and where one stands
  abbrev size : ℕ
  size = order_of side v

  abbrev order : ℕ → ℕ
  order k = in_order (last_first side uplo t) size k

  abbrev spot : ℕ → ℕ
  spot p = unknown_at side v p 0

  order_lt : (k : ℕ) → k < size → order k < size
  order_lt k h = in-order-lt (last_first side uplo t) size k h

  order-twice : (k : ℕ) → k < size → order (order k) ≡ k
  order-twice k h = in-order-twice (last_first side uplo t) size k h

  module _ (a : Matrix K) (s : List K.Cell) (counted : K.count s ≡ size) where
    abbrev after : ℕ → List K.Cell
    after m = solved K side uplo t Unit begin a v m s

    -- the solution's unknown p
    abbrev final : ℕ → K.Elem
    final p = unknown K side (after size) v p 0

    -- what unknown p of the solution brings into the equation of the unknown that is solved after k others
    abbrev term : ℕ → ℕ → K.Elem
    term k p = times K side (coefficient K side t a (order k) p) (final p)

    -- each unknown of the solution is its right-hand side less what those before it bring
    equation : (k : ℕ) → k < size
        → final (order k) ≡ minus_terms K (begin (unknown K side s v (order k) 0)) (term k) (first_before side uplo t size k) k
    equation k h =
        subst (λ (n : ℕ). unknown K side (after n) v (order k) 0 ≡ formula K side uplo t Unit begin (λ b. b) a v s (after n) (order k) 0) (strip-total side v w.one_line)
        (all-solved K L.slab side uplo t Unit begin a v s (fits-inside v (K.count s) fits) (apart_distinct v (K.count s) fits w.apart) (order k) 0 (order_lt k h) (rw w.one_line (lit≤ tt)))
        ∙ sym (minus-before K (last_first side uplo t) size k _ _ h)
        ∙ (λ i. minus_terms K (begin (unknown K side s v (order k) 0)) (λ p. brings-is K side t a (order k) p (final p) i) (first_before side uplo t size k) k)
      where
        fits : Fits v (K.count s)
        fits = rw counted w.accepted.fits

    -- ---- where the unknowns before it are the j-th unit vector's

    module _ (fit : Fit K (named uplo Unit) size size a) (b : ℕ → K.Elem) (held : (p : ℕ) → Holds K (b p))
        (right : (p : ℕ) → p < size → Same K (begin (unknown K side s v p 0)) (b p)) (j k : ℕ) (h : k < size)
        (before : (p : ℕ) → p < size → order p < k → Delta K j p (final p)) where
      abbrev from : ℕ
      from = first_before side uplo t size k

      term-finite : (p : ℕ) → from ≤ p → p < from + k → Finite K (coefficient K side t a (order k) p)
      term-finite p i l =
          let m = before-taken side uplo t size k h p i l in
          coefficient-finite K L side t (order k) p a (named uplo Unit) size (order_lt k h) m.0 (off-diagonal side uplo t (order k) p m.1 m.2) fit

      delta : (p : ℕ) → from ≤ p → p < from + k → Delta K j p (final p)
      delta p i l = before p (before-taken side uplo t size k h p i l).0 (before-earlier (last_first side uplo t) size k p h i l)

      zero-term : (p : ℕ) → from ≤ p → p < from + k → (p ≡ j → ⊥) → Same K (term k p) K.zero
      zero-term p i l o = times_zero K L side _ _ (term-finite p i l) ((delta p i l).other o)

      from-right : Same K (final (order k)) (minus_terms K (b (order k)) (term k) from k)
      from-right =
          rw (equation k h) (minus-same K L _ _ _ _ from k (right (order k) (order_lt k h)) (λ p i l. L.same_refl (term k p)))

      -- it takes none of the unknown j
      alone : (takes side uplo t (order k) j ≡ true → (order k ≡ j → ⊥) → ⊥) → Same K (final (order k)) (b (order k))
      alone no-j =
          L.same-trans from-right
          (minus-zero K L (b (order k)) (term k) from k (held (order k))
          (λ p i l.
          zero-term p i l
          (λ e.
          let m = before-taken side uplo t size k h p i l in
          no-j (subst (λ (i : ℕ). takes side uplo t (order k) i ≡ true) e m.1) (subst (λ (i : ℕ). order k ≡ i → ⊥) e m.2))))

      -- it takes it once
      once : j < size → takes side uplo t (order k) j ≡ true → (order k ≡ j → ⊥) →
          Same K (final (order k)) (K.sub (b (order k)) (coefficient K side t a (order k) j))
      once hj e o =
          let m = taken-before side uplo t size k h j hj e o in
          L.same-trans from-right
          (minus_one K L (b (order k)) (coefficient K side t a (order k) j) (term k) from k j (held (order k)) m.0 m.1
          (times-one K L side _ _ (coefficient-holds K L side t (order k) j a fit.holds) (term-finite j m.0 m.1) ((delta j m.0 m.1).here refl))
          zero-term)

  -- ---- a column solved with its own matrix is a unit vector

  module _ (a : Matrix K) (fit : Fit K (named uplo Unit) size size a) (s : List K.Cell) (counted : K.count s ≡ size) (j : ℕ) (hj : j < size)
      (right : (p : ℕ) → p < size → Same K (begin (unknown K side s v p 0)) (column K side uplo t a j p)) where
    held-column : (p : ℕ) → Holds K (column K side uplo t a j p)
    held-column = column-holds K L side uplo t a j fit.holds

    unit-step : (k : ℕ) → k < size → ((p : ℕ) → p < size → order p < k → Delta K j p (final a s counted p))
        → Delta K j (order k) (final a s counted (order k))
    unit-step k h before = record {
      here = λ e. rw (column-here K side uplo t a j (order k) e) at (alone a s counted fit (column K side uplo t a j) held-column right j k h before (λ m o. o e));
      other = λ o. at o (takes side uplo t (order k) j) refl;
    }
      where
        at : (order k ≡ j → ⊥) → (b : Bool) → takes side uplo t (order k) j ≡ b → Same K (final a s counted (order k)) K.zero
        at o true m =
            L.same-trans
            (rw (column-taken K side uplo t a j (order k) o m) at (once a s counted fit (column K side uplo t a j) held-column right j k h before hj m o))
            (L.sub_self
            (coefficient-finite K L side t (order k) j a (named uplo Unit) size (order_lt k h) hj (off-diagonal side uplo t (order k) j m o) fit))
        at o false m =
            rw (column-zero K side uplo t a j (order k) o m)
            at (alone a s counted fit (column K side uplo t a j) held-column right j k h before (λ m' o. clash m' m))

    unit-turns : (k : ℕ) → k ≤ size → (p : ℕ) → p < size → order p < k → Delta K j p (final a s counted p)
    unit-turns zero h p l g = absurd (nothing (order p) g)
      where
        nothing : (n : ℕ) → n < 0 → ⊥
        nothing n g = omega arith
    unit-turns (suc k) h p l g = at (ℕ_discrete (order p) k) (unit-turns k (omega arith))
      where
        at : Dec (order p ≡ k) → ((p : ℕ) → p < size → order p < k → Delta K j p (final a s counted p)) → Delta K j p (final a s counted p)
        at (yes e) before =
            subst (λ (i : ℕ). Delta K j i (final a s counted i)) (sym (ap order e) ∙ order-twice p l)
            (unit-step k h before)
        at (no o) before = before p l (omega arith)

    unit-solution : (p : ℕ) → p < size → Delta K j p (final a s counted p)
    unit-solution p l = unit-turns size (omega arith) p l (order_lt p l)

    -- a matrix with the same solution has the same column
    same-column : (a' : Matrix K) → Fit K (named uplo Unit) size size a' → SameSlab K (after a s counted size) (after a' s counted size) → (q : ℕ)
        → q < size →
        named uplo Unit (row_in side t q j) (col_in side t q j) ≡ true → Same K (coefficient K side t a q j) (coefficient K side t a' q j)
    same-column a' fit' e q hq m =
        let o = named-off side uplo t q j m in
        let taken = named-takes side uplo t Unit q j m in
        let seen : (p : ℕ) → p < size → Delta K j p (final a' s counted p) =
        λ p l. let d = unit-solution p l in record {
          here = λ e'. L.same-trans (L.same-sym (L.slab.at_same (spot p) e)) (d.here e');
          other = λ o'. L.same-trans (L.same-sym (L.slab.at_same (spot p) e)) (d.other o');
        }
        in
        let k = order q in
        let back = order-twice q hq in
        let row : Same K (final a' s counted q) (K.sub (coefficient K side t a q j) (coefficient K side t a' q j)) =
        rw (back, column-taken K side uplo t a j q o taken)
        at (once a' s counted fit' (column K side uplo t a j) held-column right j k (order_lt q hq) (λ p l _. seen p l) hj (rw back taken) (rw back o))
        in
        L.sub-zero-same (coefficient-holds K L side t q j a fit.holds) (coefficient-holds K L side t q j a' fit'.holds)
        (L.same-trans (L.same-sym row) ((seen q hq).other o))

-- ---- a solve: what alpha does to a right-hand side where it is taken up, and to B's slab before

abbrev solves : (K : Kind) → Side → UpLo → Trans → (K.Elem → K.Elem → K.Elem) → (K.Elem → View → List K.Cell → List K.Cell) → InPlace K
solves K side uplo t begin prepare alpha a v s = substituted K side uplo t Unit (begin alpha) a v (prepare alpha v s)

-- it respects the numbers, and ONE changes none
record Prepares (K : Kind) (side : Side) (begin : K.Elem → K.Elem → K.Elem) (prepare : K.Elem → View → List K.Cell → List K.Cell) : Type 0 where
  cong : (alpha x y : K.Elem) → Same K x y → Same K (begin alpha x) (begin alpha y)
  count : (v : View) (s : List K.Cell) → K.count (prepare K.one v s) ≡ K.count s
  by_one : (v : View) (n : ℕ) → Strip side v n → (s : List K.Cell) → K.count s ≡ n → (q : ℕ) → q < n → Holds K (unknown K side s v q 0) →
      Finite K (unknown K side s v q 0) → Same K (begin K.one (unknown K side (prepare K.one v s) v q 0)) (unknown K side s v q 0)

module _ (K : Kind) (L : Laws K) (side : Side) (uplo : UpLo) (t : Trans) (begin : K.Elem → K.Elem → K.Elem)
    (prepare : K.Elem → View → List K.Cell → List K.Cell) (S : Prepares K side begin prepare) where
  solve-keeps : Keeps K side (solves K side uplo t begin prepare) (named uplo Unit)
  solve-keeps alpha a a' v s h = substituted-same K L side uplo t (begin alpha) (S.cong alpha) a a' v h (prepare alpha v s)

  -- the slab shows column j of op(A)
  line-tells : Zeros K → (v : View) → Strip side v (order_of side v) → order_of side v ≤ limit →
      Tells K (solves K side uplo t begin prepare) (named uplo Unit) (order_of side v) v
  line-tells Z v w small a fit r c hr hc m =
      let n = order_of side v in
      let j = col_in side t r c in
      let j-lt : j < n = in_both (λ i j. j < n) side t r c hc hr in
      let b : ℕ → K.Elem = column K side uplo t a j in
      let u : Change K = λ i j old. b (unknown_in side i j) in
      let s = update K v everywhere u (Z.slab n) in
      let counted : K.count s ≡ n = count-update K L.slab v everywhere u (Z.slab n) ∙ Z.count n in
      -- B's slab as the solve takes it up
      let entry = prepare K.one v s in
      let held = column-holds K L side uplo t a j fit.holds in
      let finite : (p : ℕ) → p < n → Finite K (b p) = λ p h.
      by-column K side uplo t a j (Finite K) p L.one-finite L.zero-finite
      (λ o m. coefficient-finite K L side t p j a (named uplo Unit) n h j-lt (off-diagonal side uplo t p j m o) fit)
      in
      let right : (p : ℕ) → p < n → Same K (begin K.one (unknown K side entry v p 0)) (b p) = λ p h.
      let e = strip-shown K L side v n w (Z.slab n) (Z.count n) u p h ∙ ap b (itself side p) in
      subst (Same K (begin K.one (unknown K side entry v p 0))) e
      (S.by_one v n w s counted p h (subst (Holds K) (sym e) (held p)) (subst (Finite K) (sym e) (finite p h)))
      in
      record {
        slab = s;
        count = counted;
        numbers = update-held K L.slab v everywhere u (λ i j p q m x e. held (unknown_in side i j)) (Z.slab n) (Z.held n);
        size = rw (length-update K L.slab v everywhere u (Z.slab n)) (Z.size n small);
        tells = λ a' fit' o.
            let o' =
            rw (unit-solved K side uplo t (begin K.one) a v entry, unit-solved K side uplo t (begin K.one) a' v entry, strip-total side v w.one_line)
            at o
            in
            element-back K L side t r c a a'
            (same-column K L side uplo t (begin K.one) v w a fit entry (S.count v s ∙ counted) j j-lt right a' fit' o'.slab
            (row_in side t r c) (in_both (λ i j. i < n) side t r c hr hc) (named_back (named uplo Unit) side t r c m));
      }
    where
      itself : (side : Side) (q : ℕ) → unknown_in side (row_at side q) (col_at side q) ≡ q
      itself Left q = refl
      itself Right q = refl

  solve-tells : Zeros K → (n : ℕ) → n ≤ limit → (v : View) → Strip side v n → Tells K (solves K side uplo t begin prepare) (named uplo Unit) n v
  solve-tells Z n small v w =
      subst (λ (m : ℕ). Tells K (solves K side uplo t begin prepare) (named uplo Unit) m v) w.order
      (line-tells Z v (subst (Strip side v) (sym w.order) w) (subst (λ (m : ℕ). m ≤ limit) (sym w.order) small))

-- ---- trsv and trsm

module _ (K : Kind) (L : Laws K) (Z : Zeros K) (uplo : UpLo) (t : Trans) where
  -- trsv takes no alpha
  abbrev as_lent : K.Elem → K.Elem → K.Elem
  as_lent alpha x = x

  abbrev slab_as_lent : K.Elem → View → List K.Cell → List K.Cell
  slab_as_lent alpha v s = s

  pub trsv-sees : Sees K (Single K) (run_plain K (trsv K uplo t Unit)) Square (named uplo Unit)
  unfolding trsv
  trsv-sees =
      let S : Prepares K Left as_lent slab_as_lent = record { cong = λ alpha x y h. h; count = λ v s. refl; by_one = λ v n w s e q h x f. L.same_refl _ } in
      attempts-see L (routine K trmv_shape) (λ v a o. solves K Left uplo t as_lent slab_as_lent o.alpha a (column_of o.target.view) o.target.slab) Square (named uplo Unit)
      (vector-plain L (solves K Left uplo t as_lent slab_as_lent) (named uplo Unit) (solve-keeps K L Left uplo t as_lent slab_as_lent S)
      (λ n small. solve-tells K L Left uplo t as_lent slab_as_lent S Z n small (column_of (strip Left n)) (vector-strip n small)))

  -- Left multiplies a right-hand side where it is taken up, Right all of B before
  abbrev start_on : Side → K.Elem → K.Elem → K.Elem
  start_on Left alpha x = K.mul alpha x
  start_on Right alpha x = x

  abbrev slab_on : Side → K.Elem → View → List K.Cell → List K.Cell
  slab_on Left alpha v s = s
  slab_on Right alpha v s = times_alpha K alpha v s

  matrix-prepares : (side : Side) → Prepares K side (start_on side) (slab_on side)
  matrix-prepares Left =
      record { cong = λ alpha x y h. L.mul-cong (L.same_refl alpha) h; count = λ v s. refl; by_one = λ v n w s e q h x f. L.one-mul x f }
  matrix-prepares Right = record {
    cong = λ alpha x y h. h;
    count = λ v s. count-update K L.slab v everywhere (λ i j x. K.mul K.one x) s;
    by_one = λ v n w s e q h x f. rw (strip-shown K L Right v n w s e (λ i j x. K.mul K.one x) q h) (L.one-mul x f);
  }

  side-sees : (side : Side) → Sees K (Single K)
      (attempted (routine K (trmm_shape side)) (λ v a o. solves K side uplo t (start_on side) (slab_on side) o.alpha a o.target.view o.target.slab)) Square (named uplo Unit)
  side-sees side =
      attempts-see L (routine K (trmm_shape side)) _ Square (named uplo Unit)
      (matrix-plain L (solves K side uplo t (start_on side) (slab_on side)) (named uplo Unit) side
      (solve-keeps K L side uplo t (start_on side) (slab_on side) (matrix-prepares side))
      (λ n small. solve-tells K L side uplo t (start_on side) (slab_on side) (matrix-prepares side) Z n small (strip side n) (strip-strip side n small)))

  pub trsm-sees : (side : Side) → Sees K (Single K) (run_scaled K (trsm K side uplo t Unit)) Square (named uplo Unit)
  unfolding trsm
  trsm-sees Left = side-sees Left
  trsm-sees Right = side-sees Right
