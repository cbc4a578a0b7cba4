-- The triangular product in place, in an order in which no step reads what is written already, is every element worked out from the slab as lent.
use Prim.Native.Nat.{ℕ, zero, suc, ◌+◌, ◌*◌, ◌/◌, ◌%◌, ◌≤◌, ◌<◌}
use mathlib.Core.Bool.{Bool, true, false, not, cond}
use mathlib.Core.List.{List}
use mathlib.Core.Path.{◌≡◌, refl, ap, sym, subst, ◌∙◌}
use native.Mathlib.Nat.{mul_comm, mod-lt, div-add-mod'}
use native.Mathlib.Omega.{arith}
use borrow.Author.Tests.{lt-ltb, le-ltb, ltb-true, leb-true}
use lib.Arith.{digits_div, digits_mod, digits_lt}
use lib.Dec.{ltb, leb}
use Rattle.number.specs.Kind.{Kind}
use Rattle.number.specs.Laws.{SlabLaws}
use Rattle.number.specs.Laws.{Swaps}
use Rattle.view.specs.declared.View.{View}
use Rattle.view.specs.declared.Trans.{Trans}
use Rattle.view.specs.declared.UpLo.{UpLo}
use Rattle.view.specs.declared.Diag.{Diag}
use Rattle.view.specs.declared.Side.{Side}
use Rattle.view.specs.declared.Side.TheVariants.{Left, Right}
use Rattle.view.proofs.AnyLaws.{clash, both_ways}
use Rattle.view.specs.Checks.{order_of}
use Rattle.view.specs.Place.{index}
use Rattle.slabs.specs.Elem.{elem}
use Rattle.slabs.specs.Update.{Mask, everywhere, update_rows, update}
use Rattle.slabs.specs.Distinct.{Inside, Distinct}
use Rattle.slabs.proofs.UpdateLaws.{rows_both, update-mask, update-shown}
use Rattle.blas.specs.Matrix.{Matrix}
use Rattle.blas.specs.Triangular.{op_upper, triangular_dot}
use Rattle.blas.specs.Substitution.{unknown_at, unknown, last_first, in_order}
use Rattle.blas.proofs.OverLaws.{over-cong}
use Rattle.blas.proofs.SubstitutionLaws.{in-order-lt, in-order-twice, factor-pos, quotient-lt}
use Rattle.triangle_plan.specs.declared.System.{System}
use Rattle.triangle_plan.specs.Walk.{walk}
use Rattle.triangle_plan.specs.Triangles.{lines_view, system_of}
use Rattle.triangle_plan.specs.Multiply.{line_sum, multiply_one, multiply_all}
use Rattle.triangle_plan.proofs.WalkLaws.{walk-cong, walk-nested}
use Rattle.triangle_plan.proofs.InOrder.{one_more}
use Rattle.number.specs.Laws.{Commutes}
use Rattle.triangle_plan.proofs.Systems.{turn, line, lines-index}
use Rattle.triangle_plan.proofs.LineSums.{goes_into, weighs, line_dot, line-sum-is}

-- ---- an element of a line, as a row and a column

abbrev lines_of : Side → View → ℕ
lines_of Left v = v.cols
lines_of Right v = v.rows

abbrev row_at : Side → ℕ → ℕ → ℕ
row_at Left q l = q
row_at Right q l = l

abbrev col_at : Side → ℕ → ℕ → ℕ
col_at Left q l = l
col_at Right q l = q

at_in : (side : Side) (v : View) (q l : ℕ) → q < order_of side v → l < lines_of side v → (row_at side q l < v.rows) × (col_at side q l < v.cols)
at_in Left v q l h g = (h, g)
at_in Right v q l h g = (g, h)

at-index : (side : Side) (v : View) (q l : ℕ) → unknown_at side v q l ≡ index v (row_at side q l) (col_at side q l)
at-index Left v q l = refl
at-index Right v q l = refl

at-dot : (K : Kind) (side : Side) (uplo : UpLo) (t : Trans) (diag : Diag) (a : Matrix K) (v : View) (s : List K.Cell) (q l : ℕ)
    → line_dot K side uplo t diag a v s q l ≡ triangular_dot K side uplo t diag (order_of side v) a (elem K s v) (row_at side q l) (col_at side q l)
at-dot K Left uplo t diag a v s q l = refl
at-dot K Right uplo t diag a v s q l = refl

-- ---- how many elements come before (r, c), line after line

turn_in : (side : Side) (v : View) (r c : ℕ) → r < v.rows → c < v.cols → (turn side r c < order_of side v) × (line side r c < lines_of side v)
turn_in Left v r c h g = (h, g)
turn_in Right v r c h g = (g, h)

at_turn : (side : Side) (r c : ℕ) → (row_at side (turn side r c) (line side r c) ≡ r) × (col_at side (turn side r c) (line side r c) ≡ c)
at_turn Left r c = (refl, refl)
at_turn Right r c = (refl, refl)

abbrev rank : Side → Bool → View → ℕ → ℕ → ℕ
rank side last v r c = line side r c * order_of side v + in_order last (order_of side v) (turn side r c)

rank-of : (side : Side) (last : Bool) (v : View) (q l : ℕ) → rank side last v (row_at side q l) (col_at side q l) ≡ l * order_of side v + in_order last (order_of side v) q
rank-of Left last v q l = refl
rank-of Right last v q l = refl

-- elements in all
abbrev total : Side → View → ℕ
total side v = order_of side v * lines_of side v

rank_below : (side : Side) (last : Bool) (v : View) (r c : ℕ) → r < v.rows → c < v.cols → rank side last v r c < total side v
rank_below side last v r c h g =
    let w = turn_in side v r c h g in
    subst (λ (x : ℕ). rank side last v r c < x) (mul_comm (lines_of side v) (order_of side v)) (digits_lt w.1 (in-order-lt last (order_of side v) (turn side r c) w.0))

module _ (side : Side) (last : Bool) (v : View) (n : ℕ) (h : n < total side v) where
  abbrev m : ℕ
  m = order_of side v

  -- the n-th element
  abbrev nth : ℕ
  nth = in_order last m (n % m)

  turn-lt : n % m < m
  turn-lt = mod-lt n (factor-pos n m (lines_of side v) h)

  line-lt : n / m < lines_of side v
  line-lt = quotient-lt n m (lines_of side v) h

  rank-at : rank side last v (row_at side nth (n / m)) (col_at side nth (n / m)) ≡ n
  rank-at = rank-of side last v nth (n / m) ∙ ap (λ (x : ℕ). n / m * m + x) (in-order-twice last m (n % m) turn-lt) ∙ div-add-mod' n m

  -- is the only one of its rank
  rank-only : (r c : ℕ) → r < v.rows → c < v.cols → rank side last v r c ≡ n → (r ≡ row_at side nth (n / m)) × (c ≡ col_at side nth (n / m))
  rank-only r c p q e =
      let w = turn_in side v r c p q in
      let u : turn side r c ≡ nth = sym (in-order-twice last m (turn side r c) w.0) ∙ ap (in_order last m) (sym (digits_mod (line side r c) (in-order-lt last m (turn side r c) w.0)) ∙ ap (λ (x : ℕ). x % m) e) in
      let k : line side r c ≡ n / m = sym (digits_div (line side r c) (in-order-lt last m (turn side r c) w.0)) ∙ ap (λ (x : ℕ). x / m) e in
      (sym (at_turn side r c).0 ∙ (λ i. row_at side (u i) (k i)), sym (at_turn side r c).1 ∙ (λ i. col_at side (u i) (k i)))

  -- comes no later than one of its line that is no earlier in order
  rank-later : (p : ℕ) → n % m ≤ in_order last m p → n ≤ rank side last v (row_at side p (n / m)) (col_at side p (n / m))
  rank-later p g = subst (λ (x : ℕ). n ≤ x) (sym (rank-of side last v p (n / m))) (above (in_order last m p) g)
    where
      above : (x : ℕ) → n % m ≤ x → n ≤ n / m * m + x
      above x g =
          let e : n / m * m + n % m ≡ n = div-add-mod' n m in
          omega (arith, g, e)

-- what goes into an element comes no earlier
goes_later : (side : Side) (uplo : UpLo) (t : Trans) (m k p : ℕ) → k < m → p < m → goes_into side uplo t (in_order (not (last_first side uplo t)) m k) p ≡ true
    → k ≤ in_order (not (last_first side uplo t)) m p
goes_later Left uplo t m k p h g e = go (op_upper uplo t) e
  where
    go : (b : Bool) → cond b (leb (in_order (not b) m k) p) (leb p (in_order (not b) m k)) ≡ true → k ≤ in_order (not b) m p
    go true e = leb-true k p e
    go false e = let l = leb-true p (in_order true m k) e in omega arith
goes_later Right uplo t m k p h g e = go (op_upper uplo t) e
  where
    go : (b : Bool) → cond b (leb p (in_order (not (not b)) m k)) (leb (in_order (not (not b)) m k) p) ≡ true → k ≤ in_order (not (not b)) m p
    go true e = let l = leb-true p (in_order true m k) e in omega arith
    go false e = leb-true k p e

-- ---- the slab after n elements

lines_rows : (side : Side) (v : View) → (lines_view side v).rows ≡ order_of side v
lines_rows Left v = refl
lines_rows Right v = refl

module _ (K : Kind) (L : SlabLaws K) (W : Swaps K) (C : Commutes K) (side : Side) (uplo : UpLo) (t : Trans) (diag : Diag) (va : View) (sa : List K.Cell)
    (begin : K.Elem → K.Elem) (v : View) (s₀ : List K.Cell) (inside : Inside v (K.count s₀)) (distinct : Distinct v) where
  abbrev system : System
  system = system_of side uplo t diag va v

  abbrev a : Matrix K
  a = elem K sa va

  abbrev last : Bool
  last = not (last_first side uplo t)

  -- the first n elements
  abbrev done : ℕ → Mask
  done n r c = ltb (rank side last v r c) n

  -- an element of the product, from the slab as lent
  abbrev product : ℕ → ℕ → K.Elem
  product r c = begin (triangular_dot K side uplo t diag (order_of side v) a (elem K s₀ v) r c)

  abbrev after : ℕ → List K.Cell
  after n = update K v (done n) (λ r c x. product r c) s₀

  none_done : after 0 ≡ s₀
  unfolding update_rows
  none_done =
      rows_both K v (done 0) (done 0) (λ r c x. product r c) (λ r c x. product r c) (λ s s'. s ≡ s₀) 0 v.rows (omega arith)
      (λ r l h c k. (refl, λ e. absurd (clash e (le-ltb (rank side last v r c) 0 (omega arith)))))
      s₀
      s₀
      refl

  module _ (n : ℕ) (h : n < total side v) where
    abbrev turn_n : ℕ
    turn_n = n % order_of side v

    abbrev line_n : ℕ
    line_n = n / order_of side v

    abbrev q : ℕ
    q = in_order last (order_of side v) turn_n

    abbrev r : ℕ
    r = row_at side q line_n

    abbrev c : ℕ
    c = col_at side q line_n

    k-in : turn_n < order_of side v
    k-in = turn-lt side last v n h

    q-in : q < order_of side v
    q-in = in-order-lt last (order_of side v) turn_n k-in

    shown : (r < v.rows) × (c < v.cols)
    shown = at_in side v q line_n q-in (line-lt side last v n h)

    like : (r' c' : ℕ) → r' < v.rows → c' < v.cols → (r' ≡ r → c' ≡ c → ⊥) → done (suc n) r' c' ≡ done n r' c'
    like r' c' p g ne = go (rank side last v r' c') (λ e. let w = rank-only side last v n h r' c' p g e in ne w.0 w.1)
      where
        go : (x : ℕ) → (x ≡ n → ⊥) → ltb x (suc n) ≡ ltb x n
        go x d = both_ways (ltb x (suc n)) (ltb x n) (λ e. lt-ltb x n (below x d (ltb-true x (suc n) e))) (λ e. lt-ltb x (suc n) (above x (ltb-true x n e)))
          where
            below : (x : ℕ) → (x ≡ n → ⊥) → x < suc n → x < n
            below x d g = omega arith

            above : (x : ℕ) → x < n → x < suc n
            above x g = omega arith

    -- what goes into the n-th element is as lent
    unwritten : (p : ℕ) → p < order_of side v → goes_into side uplo t q p ≡ true → unknown K side (after n) v p line_n ≡ unknown K side s₀ v p line_n
    unwritten p g e =
        let w = at_in side v p line_n g (line-lt side last v n h) in
        let later = rank-later side last v n h p (goes_later side uplo t (order_of side v) turn_n p k-in g e) in
        ap (K.at (after n)) (at-index side v p line_n)
        ∙ update-shown K L v (done n) (λ r c x. product r c) s₀ inside distinct (row_at side p line_n) (col_at side p line_n) w.0 w.1
        ∙ ap (λ (b : Bool). cond b (product (row_at side p line_n) (col_at side p line_n)) (elem K s₀ v (row_at side p line_n) (col_at side p line_n))) (le-ltb _ n later)
        ∙ sym (ap (K.at s₀) (at-index side v p line_n))

    same-dot : line_dot K side uplo t diag a v (after n) q line_n ≡ triangular_dot K side uplo t diag (order_of side v) a (elem K s₀ v) r c
    same-dot =
        over-cong K (λ p. goes_into side uplo t q p) (λ p. weighs K side diag t a q p (unknown K side (after n) v p line_n))
        (λ p. weighs K side diag t a q p (unknown K side s₀ v p line_n))
        (order_of side v)
        (λ p g e. ap (weighs K side diag t a q p) (unwritten p g e))
        ∙ at-dot K side uplo t diag a v s₀ q line_n

    next : (s : List K.Cell) → s ≡ after n → multiply_one K system sa begin turn_n line_n s ≡ after (suc n)
    unfolding multiply_one
    next s e =
        (λ i. K.put (e i) (index (lines_view side v) (in_order last (lines_rows side v i) turn_n) line_n) (begin (line_sum K system sa (e i) (in_order last (lines_rows side v i) turn_n) line_n)))
        ∙ (λ i. K.put (after n) ((lines-index side v q line_n ∙ at-index side v q line_n) i)
        (begin ((line-sum-is K C uplo t diag va v sa (after n) q line_n side q-in ∙ same-dot) i)))
        ∙ sym (one_more K W v (done n) (done (suc n)) product r c shown.0 shown.1 distinct
        (lt-ltb _ (suc n) (is_last (rank-at side last v n h))) (le-ltb _ n (is-not (rank-at side last v n h))) like s₀)
      where
        is_last : {x : ℕ} → x ≡ n → x < suc n
        is_last e = omega arith

        is-not : {x : ℕ} → x ≡ n → n ≤ x
        is-not e = omega arith

  -- the n-th step
  abbrev nth_step : ℕ → List K.Cell → List K.Cell
  nth_step n = multiply_one K system sa begin (n % order_of side v) (n / order_of side v)

  so_far : (n : ℕ) → n ≤ total side v → walk n nth_step s₀ ≡ after n
  unfolding walk
  so_far zero h = sym none_done
  so_far (suc n) h = next n h (walk n nth_step s₀) (so_far n (omega arith))

  lines-sizes : (side' : Side) → ((lines_view side' v).rows ≡ order_of side' v) × ((lines_view side' v).cols ≡ lines_of side' v)
  lines-sizes Left = (refl, refl)
  lines-sizes Right = (refl, refl)

  pub multiplied-all : multiply_all K system sa begin s₀ ≡ update K v everywhere (λ r c x. product r c) s₀
  multiplied-all =
      (λ i. walk ((lines-sizes side).1 i) (λ l. walk ((lines-sizes side).0 i) (λ k. multiply_one K system sa begin k l)) s₀)
      ∙ walk-cong (λ l. walk (order_of side v) (λ k. multiply_one K system sa begin k l)) (λ l. walk (order_of side v) (λ k. nth_step (l * order_of side v + k))) (lines_of side v)
      (λ l g s. walk-cong (λ k. multiply_one K system sa begin k l) (λ k. nth_step (l * order_of side v + k)) (order_of side v)
      (λ k h s'. λ d. multiply_one K system sa begin (sym (digits_mod l h) d) (sym (digits_div l h) d) s')
      s)
      s₀
      ∙ walk-nested nth_step (order_of side v) (lines_of side v) s₀
      ∙ ap (λ (n : ℕ). walk n nth_step s₀) (mul_comm (lines_of side v) (order_of side v))
      ∙ so_far (total side v) (omega arith)
      ∙ update-mask K v (done (total side v)) (λ r c x. product r c) everywhere (λ r c p g. lt-ltb _ (total side v) (rank_below side last v r c p g)) s₀

-- ---- as the engine meets it

module _ (K : Kind) (y : System) (a : List K.Cell) (begin : K.Elem → K.Elem) where
  -- a vector is one line
  pub only-line : (m : ℕ) (s s' : List K.Cell) → y.b.cols ≡ 1 → m ≡ y.b.rows → s' ≡ walk m (λ k. multiply_one K y a begin k 0) s → s' ≡ multiply_all K y a begin s
  unfolding walk
  only-line m s s' one counted e = e ∙ (λ i. walk (sym one i) (λ l. walk (counted i) (λ k. multiply_one K y a begin k l)) s)
