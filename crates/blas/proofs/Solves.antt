-- `Solves` is met: an element is as lent until its turn and then as its turn left it, which the elements of its line before it settle.
use Prim.Native.Nat.{ℕ, zero, suc, ◌+◌, ◌-◌, ◌*◌, ◌≤◌, ◌<◌}
use mathlib.Core.Bool.{Bool, true, false, not, cond, ◌&&◌, and-true, and-false}
use mathlib.Core.List.{List}
use mathlib.Core.Logic.{◌⊎◌, inl, inr}
use mathlib.Core.Path.{◌≡◌, refl, sym, ap, subst, ◌∙◌}
use native.Mathlib.Decide.{ℕ_discrete}
use native.Mathlib.Nat.{mul_comm, mul-le-mul_right, le-mul_of_pos_right}
use native.Mathlib.Omega.{arith}
use lib.Arith.{digits_lt}
use lib.Dec.{ltb}
use lib.ListN.{length, get_or}
use borrow.Author.Tests.{lt-ltb, le-ltb, ltb-true, ltb-false, le-leb, leb-true, ne_eqb}
use Rattle.number.specs.Kind.{Kind}
use Rattle.number.specs.Laws.{SlabLaws}
use Rattle.view.specs.declared.View.{View}
use Rattle.view.specs.declared.Answer.TheVariants.{Done}
use Rattle.view.specs.declared.Trans.{Trans}
use Rattle.view.specs.declared.UpLo.{UpLo}
use Rattle.view.specs.declared.Diag.{Diag}
use Rattle.view.specs.declared.Side.{Side}
use Rattle.view.specs.declared.Side.TheVariants.{Left, Right}
use Rattle.view.specs.Any.{any}
use Rattle.view.proofs.AnyLaws.{found, none, and_left, and_right, and_both, is_false, clash}
use Rattle.view.specs.Checks.{order_of, trmv_shape, trmm_shape, trsv_check, trsm_check}
use Rattle.view.proofs.JudgeLaws.{judge-passed, trmv-sizes}
use Rattle.view.specs.Place.{index}
use Rattle.view.specs.Refusals.{Fits, overlaps}
use Rattle.view.specs.Vector.{column_of}
use Rattle.view.proofs.VectorLaws.{column_fits, column-no-overlap}
use Rattle.slabs.specs.Elem.{Lent}
use Rattle.slabs.specs.Distinct.{Inside, Distinct}
use Rattle.slabs.specs.Update.{everywhere}
use Rattle.slabs.proofs.UpdateLaws.{count-update}
use Rattle.blas.specs.Matrix.{Matrix, matrix}
use Rattle.blas.specs.Outcome.{Outcome}
use Rattle.blas.specs.Substitution.{unknown_at, unknown, brings, last_first, in_order, least_solved, turn_of, line_of, elements_before, first_at, by_pivot, zero_pivot, solution, solve_one, solved, singular, solvable, substituted}
use Rattle.blas.specs.Trsv.{trsv}
use Rattle.blas.specs.Trsm.{times_alpha, sided_solve, trsm}
use Rattle.blas.specs.Solves.{lines_of, not_after, before_zero, reached_line, unsolved, formula, is_solved, Solves}
use Rattle.blas.proofs.Elements.{fits-inside, apart_distinct, replaces}
use Rattle.blas.proofs.SubstitutionLaws.{minus-cong, in-order-lt, in-order-twice, solved-below, before-earlier, minus-before, first-true, first-le, first-before, factor-pos, turn-lt, line-lt, number_of, number_is, number-turn, number_lt, number-earlier}

-- ---- unknowns are shown elements, and stand apart

each-unknown : (side : Side) (v : View) (P : ℕ → Type 0) → ((i j : ℕ) → i < v.rows → j < v.cols → P (index v i j))
    → (q l : ℕ) → q < order_of side v → l < lines_of side v → P (unknown_at side v q l)
each-unknown Left v P p q l h g = p q l h g
each-unknown Right v P p q l h g = p l q g h

unknown-apart : (side : Side) (v : View) → Distinct v → (q l q' l' : ℕ) → q < order_of side v → l < lines_of side v → q' < order_of side v → l' < lines_of side v
    → unknown_at side v q l ≡ unknown_at side v q' l' → (q ≡ q') × (l ≡ l')
unknown-apart Left v o q l q' l' h g h' g' e = o.only q l q' l' h g h' g' e
unknown-apart Right v o q l q' l' h g h' g' e = let b = o.only l q l' q' g h g' h' e in (b.1, b.0)

-- ---- how far a solve goes

not-after-order : (last : Bool) (m p q : ℕ) → p < m → q < m → not_after last p q ≡ true → in_order last m p ≤ in_order last m q
not-after-order true m p q h g e = let l = leb-true q p e in omega arith
not-after-order false m p q h g e = leb-true p q e

order-not-after : (last : Bool) (m k q : ℕ) → q < m → k ≤ in_order last m q → not_after last (in_order last m k) q ≡ true
order-not-after true m k q h g = le-leb q (m - suc k) (omega arith)
order-not-after false m k q h g = le-leb k q g

-- the unknowns before the first zero pivot are those that fewer unknowns come before than before it
before-zero-is : (K : Kind) (last : Bool) (m : ℕ) (diag : Diag) (a : Matrix K) (q : ℕ) → q < m
    → before_zero K last m diag a q ≡ ltb (in_order last m q) (first_at m (λ k. zero_pivot K diag a (in_order last m k)))
before-zero-is K last m diag a q h = go (ltb (in_order last m q) first) refl
  where
    zero_after : ℕ → Bool
    zero_after k = zero_pivot K diag a (in_order last m k)

    first : ℕ
    first = first_at m zero_after

    met : ℕ → Bool
    met p = not_after last p q && zero_pivot K diag a p

    go : (b : Bool) → ltb (in_order last m q) first ≡ b → not (any m met) ≡ b
    go true e =
        ap not
        (none m met
        (λ p l. is_false (met p)
        (λ c.
        let i = not-after-order last m p q l h (and_left (not_after last p q) (zero_pivot K diag a p) c) in
        let k = ltb-true (in_order last m q) first e in
        clash (and_right (not_after last p q) (zero_pivot K diag a p) c)
        (ap (zero_pivot K diag a) (sym (in-order-twice last m p l)) ∙ first-before m zero_after (in_order last m p) (omega arith)))))
    go false e =
        let i = ltb-false (in_order last m q) first e in
        let k = in-order-lt last m q h in
        let c : first < m = omega arith in
        ap not
        (found m met (in_order last m first) (in-order-lt last m first c)
        (and_both (not_after last (in_order last m first) q) (zero_after first) (order-not-after last m first q h i) (first-true m zero_after c)))

-- f unknowns of each line that is reached
reached-is : (side : Side) (v : View) (k l f : ℕ) → k < order_of side v → l < lines_of side v → f ≤ order_of side v
    → (ltb k f && reached_line side l) ≡ ltb (number_of side v k l) (elements_before side v f)
reached-is Left v k zero f h g c = let e : k ≡ 0 * v.rows + k = omega arith in and-true (ltb k f) ∙ ap (λ (n : ℕ). ltb n f) e
reached-is Left v k (suc l) f h g c =
    ap (λ b. ltb k f && b) (ne_eqb (suc l) 0 (λ e. omega arith)) ∙ and-false (ltb k f) ∙ sym (le-ltb (suc l * v.rows + k) f (omega arith))
reached-is Right v k l f h g c = and-true (ltb k f) ∙ go (ltb k f) refl
  where
    go : (b : Bool) → ltb k f ≡ b → b ≡ ltb (k * v.rows + l) (f * v.rows)
    go true e = sym (lt-ltb (k * v.rows + l) (f * v.rows) (digits_lt (ltb-true k f e) g))
    go false e = let i : f * v.rows ≤ k * v.rows = mul-le-mul_right v.rows (ltb-false k f e) in sym (le-ltb (k * v.rows + l) (f * v.rows) (omega arith))

reached-le : (side : Side) (v : View) (f : ℕ) → f ≤ order_of side v → 0 < v.rows * v.cols → elements_before side v f ≤ v.rows * v.cols
reached-le Left v f h g =
    let i = le-mul_of_pos_right v.rows (factor-pos 0 v.cols v.rows (subst (λ (n : ℕ). 0 < n) (mul_comm v.rows v.cols) g)) in
    omega arith
reached-le Right v f h g = let i : f * v.rows ≤ v.cols * v.rows = mul-le-mul_right v.rows h in omega arith

-- ---- the slab after n elements

module _ (K : Kind) (L : SlabLaws K) (side : Side) (uplo : UpLo) (t : Trans) (diag : Diag) (begin : K.Elem → K.Elem) (a : Matrix K) (v : View) (s : List K.Cell)
    (w : Inside v (K.count s)) (o : Distinct v) where
  abbrev after : ℕ → List K.Cell
  after n = solved K side uplo t diag begin a v n s

  abbrev total : ℕ
  total = v.rows * v.cols

  abbrev last : Bool
  last = last_first side uplo t

  abbrev m : ℕ
  m = order_of side v

  abbrev place : ℕ → ℕ → ℕ
  place k l = unknown_at side v (in_order last m k) l

  size-after : (f : List K.Cell → ℕ) → ((z : List K.Cell) (k : ℕ) (x : K.Elem) → f (K.put z k x) ≡ f z) → (n : ℕ) → f (after n) ≡ f s
  unfolding solved solve_one
  size-after f h zero = refl
  size-after f h (suc n) = h (after n) _ _ ∙ size-after f h n

  cell-after : (i : ℕ) (d : K.Cell) → ((q l : ℕ) → q < m → l < lines_of side v → (i < K.width * unknown_at side v q l) ⊎ (K.width * unknown_at side v q l + K.width ≤ i))
      → (n : ℕ) → n ≤ total → get_or (after n) i d ≡ get_or s i d
  unfolding solved solve_one
  cell-after i d away zero h = refl
  cell-after i d away (suc n) h =
      apart (place (turn_of side v n) (line_of side v n)) _ (away _ (line_of side v n) (in-order-lt last m (turn_of side v n) (turn-lt side v n h)) (line-lt side v n h))
      ∙ cell-after i d away n (omega arith)
    where
      apart : (k : ℕ) (x : K.Elem) → (i < K.width * k) ⊎ (K.width * k + K.width ≤ i) → get_or (K.put (after n) k x) i d ≡ get_or (after n) i d
      apart k x (inl p) = L.cell-put-below (after n) k i x d p
      apart k x (inr p) = L.cell-put-above (after n) k i x d p

  -- the unknown of line l that is solved after k others: its turn, and what it is given then
  module _ (k l : ℕ) (h : k < m) (g : l < lines_of side v) where
    abbrev turn : ℕ
    turn = number_of side v k l

    abbrev value : K.Elem
    value = solution K side uplo t diag begin a v k (in_order last m k) l (after turn)

    at_turn : K.at (after (suc turn)) (place k l) ≡ value
    unfolding solved solve_one
    at_turn =
        let e = number-turn side v k l h g in
        ap (λ z. K.at z (place k l)) (λ i. solve_one K side uplo t diag begin a v (e.0 i) (e.1 i) (after turn))
        ∙ L.at-put (after turn) (place k l) value
        (rw (size-after K.count L.count-put turn) (each-unknown side v (λ n. n < K.count s) w.below (in_order last m k) l (in-order-lt last m k h) g))

    off-turn : (n : ℕ) → n < total → (n ≡ turn → ⊥) → K.at (after (suc n)) (place k l) ≡ K.at (after n) (place k l)
    unfolding solved solve_one
    off-turn n p ne =
        L.at-put-other (after n) (place (turn_of side v n) (line_of side v n)) (place k l) _
        (λ e.
        let i = turn-lt side v n p in
        let b = unknown-apart side v o _ l _ (line_of side v n) (in-order-lt last m k h) g (in-order-lt last m (turn_of side v n) i) (line-lt side v n p) e in
        let c = sym (in-order-twice last m k h) ∙ ap (in_order last m) b.0 ∙ in-order-twice last m (turn_of side v n) i in
        ne (sym (number_is side v n) ∙ (λ j. number_of side v (sym c j) (sym b.1 j))))

    not_yet : (n : ℕ) → n ≤ turn → K.at (after n) (place k l) ≡ K.at s (place k l)
    unfolding solved
    not_yet zero p = refl
    not_yet (suc n) p = let i = number_lt side v k l h g in off-turn n (omega arith) (λ e. omega arith) ∙ not_yet n (omega arith)

    kept : (n : ℕ) → turn < n → n ≤ total → K.at (after n) (place k l) ≡ value
    kept zero p c = absurd (nothing turn p)
      where
        nothing : (n : ℕ) → n < 0 → ⊥
        nothing n p = omega arith
    kept (suc n) p c = at (ℕ_discrete n turn) (λ i. kept n i (omega arith))
      where
        at : Dec (n ≡ turn) → (turn < n → K.at (after n) (place k l) ≡ value) → K.at (after (suc n)) (place k l) ≡ value
        at (yes e) r = subst (λ (i : ℕ). K.at (after (suc i)) (place k l) ≡ value) (sym e) at_turn
        at (no ne) r = off-turn n (omega arith) ne ∙ r (omega arith)

  -- what an unknown is given is its formula over any later slab
  abbrev given : ℕ → ℕ → ℕ → K.Elem
  given n q l = formula K side uplo t diag begin (λ b. b) a v s (after n) q l

  value-is : (n k l : ℕ) (h : k < m) (g : l < lines_of side v) → number_of side v k l < n → n ≤ total → value k l h g ≡ given n (in_order last m k) l
  value-is n k l h g p c =
      ap (by_pivot K diag t a (in_order last m k))
      (minus-cong K _ _ _ _ least k (ap begin (not_yet k l h g (number_of side v k l) (omega arith))) (λ i d. ap (brings K side t a (in_order last m k) (least + i)) (settled i d))
      ∙ minus-before K last m k _ _ h)
    where
      least : ℕ
      least = least_solved last m k

      settled : (i : ℕ) → i < k → unknown K side (after (number_of side v k l)) v (least + i) l ≡ unknown K side (after n) v (least + i) l
      settled i d =
          let j = in_order last m (least + i) in
          let b = solved-below last m k i h d in
          let e = number-earlier side v j k l (before-earlier last m k (least + i) h (omega arith) (omega arith)) g in
          subst (λ (q : ℕ). unknown K side (after (number_of side v k l)) v q l ≡ unknown K side (after n) v q l) (in-order-twice last m (least + i) b)
          (kept j l (in-order-lt last m (least + i) b) g (number_of side v k l) e (omega arith) ∙ sym (kept j l (in-order-lt last m (least + i) b) g n (omega arith) c))

  element-is : (n q l : ℕ) → n ≤ total → q < m → l < lines_of side v
      → unknown K side (after n) v q l ≡ cond (ltb (number_of side v (in_order last m q) l) n) (given n q l) (unknown K side s v q l)
  element-is n q l c h g =
      subst (λ (p : ℕ). unknown K side (after n) v p l ≡ cond (ltb (number_of side v k l) n) (given n p l) (unknown K side s v p l)) (in-order-twice last m q h)
      (go (ltb (number_of side v k l) n) refl)
    where
      k : ℕ
      k = in_order last m q

      below : k < m
      below = in-order-lt last m q h

      go : (b : Bool) → ltb (number_of side v k l) n ≡ b → unknown K side (after n) v (in_order last m k) l ≡ cond b (given n (in_order last m k) l) (unknown K side s v (in_order last m k) l)
      go true e = let i = ltb-true (number_of side v k l) n e in kept k l below g n i c ∙ value-is n k l below g i c
      go false e = not_yet k l below g n (ltb-false (number_of side v k l) n e)

  pub all-solved : (q l : ℕ) → q < m → l < lines_of side v → unknown K side (after total) v q l ≡ given total q l
  all-solved q l h g =
      element-is total q l (omega arith) h g
      ∙ ap (λ b. cond b (given total q l) (unknown K side s v q l))
      (lt-ltb (number_of side v (in_order last m q) l) total (number_lt side v (in_order last m q) l (in-order-lt last m q h) g))

  -- ---- the outcome

  abbrev solves : Outcome K → Type 0
  solves = Solves K side uplo t diag begin (λ b. b) a v s

  pub substituted-solves : solves (substituted K side uplo t diag begin a v s)
  unfolding substituted
  substituted-solves = go (singular K side uplo t diag begin a v) refl
    where
      zero_after : ℕ → Bool
      zero_after k = zero_pivot K diag a (in_order last m k)

      -- r is the answer, n elements are solved, and the test is whether an element is one of them
      ends : (b : Bool) (r n : ℕ) → singular K side uplo t diag begin a v ≡ b → r ≡ cond b 5 0 → n ≤ total
          → ((q l : ℕ) → q < m → l < lines_of side v → cond b (before_zero K last m diag a q && reached_line side l) true ≡ ltb (number_of side v (in_order last m q) l) n)
          → solves (record { answer = r; slab = after n })
      ends b r n e d c test =
          record {
            answer = d ∙ ap (λ z. cond z 5 0) (sym e);
            shown = λ q l h g.
                element-is n q l c h g
                ∙ ap (λ z. cond z (given n q l) (unknown K side s v q l))
                (sym (ap (λ z. cond z (before_zero K last m diag a q && reached_line side l) true) e ∙ test q l h g));
            kept = record {
              size = size-after length L.length-put n;
              unwritten = λ i j p q u. absurd (clash refl u);
              other = λ i d away.
                  cell-after i d (each-unknown side v (λ k. (i < K.width * k) ⊎ (K.width * k + K.width ≤ i)) (λ r j p q. away r j p q refl)) n c;
            };
          }

      go : (b : Bool) → singular K side uplo t diag begin a v ≡ b
          → solves (cond b (record { answer = 5; slab = after (solvable K side uplo t diag begin a v) }) (record { answer = 0; slab = after total }))
      go true e =
          let f = first_at m zero_after in
          let c = first-le m zero_after in
          ends true 5 (elements_before side v f) e refl
          (reached-le side v f c (ltb-true 0 total (and_left (ltb 0 total) (any m (λ q. zero_pivot K diag a q)) e)))
          (λ q l h g. ap (λ b. b && reached_line side l) (before-zero-is K last m diag a q h) ∙ reached-is side v (in_order last m q) l f (in-order-lt last m q h) g c)
      go false e =
          ends false 0 total e refl (omega arith)
          (λ q l h g. sym (lt-ltb (number_of side v (in_order last m q) l) total (number_lt side v (in_order last m q) l (in-order-lt last m q h) g)))

-- ---- the routines

module _ (K : Kind) (L : SlabLaws K) (uplo : UpLo) (t : Trans) (diag : Diag) where
  -- on a view that fits its slab, its elements on distinct places
  fit-solves : (side : Side) (begin : K.Elem → K.Elem) (a : Matrix K) (v : View) (s : List K.Cell) → Fits v (K.count s) → overlaps v ≡ false
      → Solves K side uplo t diag begin (λ b. b) a v s (substituted K side uplo t diag begin a v s)
  fit-solves side begin a v s h o = substituted-solves K L side uplo t diag begin a v s (fits-inside v (K.count s) h) (apart_distinct v (K.count s) h o)

  pub trsv-solves : (a x : Lent K) → trsv_check a.view (K.count a.slab) x.view (K.count x.slab) ≡ Done
      → Solves K Left uplo t diag (λ b. b) (λ b. b) (matrix K a) (column_of x.view) x.slab (trsv K uplo t diag a x)
  unfolding trsv
  trsv-solves a x passed =
      let p = judge-passed _ (trmv_shape a.view x.view) x.view passed in
      let i = (trmv-sizes a.view x.view p.shape).1.vector in
      rw passed
      (fit-solves Left (λ b. b) (matrix K a) (column_of x.view) x.slab (column_fits x.view (K.count x.slab) i p.each.1.0.fits) (column-no-overlap x.view i p.distinct))

  -- Right has scaled all of B first
  sided-solves : (side : Side) (alpha : K.Elem) (a : Matrix K) (v : View) (s : List K.Cell) → Fits v (K.count s) → overlaps v ≡ false
      → Solves K side uplo t diag (K.mul alpha) (unsolved K side alpha) a v s (sided_solve K side uplo t diag alpha a v s)
  sided-solves Left alpha a v s h o = fit-solves Left (K.mul alpha) a v s h o
  sided-solves Right alpha a v s h o =
      let z = times_alpha K alpha v s in
      let r = replaces K L v everywhere (λ i j x. K.mul alpha x) s h o in
      let p = fit-solves Right (λ b. b) a v z (rw (count-update K L v everywhere (λ i j x. K.mul alpha x) s) h) o in
      record {
        answer = p.answer;
        shown = λ q l i j.
            p.shown q l i j
            ∙ ap (λ x. cond (is_solved K Right uplo t diag (λ b. b) (λ b. b) a v q l)
            (formula K Right uplo t diag (λ b. x) (λ b. b) a v z (substituted K Right uplo t diag (λ b. b) a v z).slab q l)
            x)
            (r.written l q j i refl);
        kept = record {
          size = p.kept.size ∙ r.kept.size;
          unwritten = λ i j d e u. absurd (clash refl u);
          other = λ n d away. p.kept.other n d away ∙ r.kept.other n d away;
        };
      }

  pub trsm-solves : (side : Side) (alpha : K.Elem) (a b : Lent K) → trsm_check side a.view (K.count a.slab) b.view (K.count b.slab) ≡ Done
      → Solves K side uplo t diag (K.mul alpha) (unsolved K side alpha) (matrix K a) b.view b.slab (trsm K side uplo t diag alpha a b)
  unfolding trsm
  trsm-solves side alpha a b passed =
      let p = judge-passed _ (trmm_shape side a.view b.view) b.view passed in
      rw passed (sided-solves side alpha (matrix K a) b.view b.slab p.each.1.0.fits p.distinct)
