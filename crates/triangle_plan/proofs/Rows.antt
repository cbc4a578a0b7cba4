-- Eight elements of a line side by side: each is the sum that it would be by itself, and they may be worked out before any of them is written.
use Prim.Native.Nat.{ℕ, zero, suc, ◌+◌, ◌-◌, ◌≤◌, ◌<◌}
use mathlib.Core.Bool.{Bool, true, false, not, cond}
use mathlib.Core.List.{List}
use mathlib.Core.Path.{◌≡◌, refl, ap, sym, subst, ◌∙◌}
use native.Mathlib.Omega.{arith}
use Rattle.number.specs.Kind.{Kind}
use Rattle.number.specs.Laws.{SlabLaws}
use Rattle.number.specs.Laws.{Commutes, SelfConjugate}
use Rattle.view.specs.Place.{index, transposed_of}
use Rattle.view.proofs.TransposeLaws.{transposed-accepted}
use Rattle.slabs.specs.Distinct.{Distinct}
use Rattle.slabs.specs.Eight.{lane, Lanes}
use Rattle.slabs.specs.Elem.{elem, Within}
use Rattle.slabs.specs.Run.{plus_terms}
use Rattle.slabs.proofs.RunLaws.{elem-own, run-run}
use Rattle.blas.specs.Substitution.{in_order}
use Rattle.blas.proofs.OpLaws.{transposed-elem}
use Rattle.blas.proofs.SubstitutionLaws.{in-order-lt}
use Rattle.triangle_plan.specs.declared.System.{System}
use Rattle.triangle_plan.specs.Walk.{walk}
use Rattle.triangle_plan.specs.Lanes.{eight_from, put_rows}
use Rattle.triangle_plan.specs.Multiply.{own_diag, own, line_term, own_first, own_last, line_sum, multiply_one}
use Rattle.triangle_plan.specs.Triangles.{coefficient}
use Rattle.triangle_plan.specs.Ready.{ReadyAt, RowsReady}
use Rattle.triangle_plan.proofs.LineSums.{more-cong, line-behind, line_before}
use Rattle.triangle_plan.proofs.WalkLaws.{walk-cong}
use Rattle.triangle_plan.proofs.Runs.{more_on}

-- ---- what the rows read

module _ (y : System) (la lb q : ℕ) (r : RowsReady y la lb q) where
  pub row_ready : (t : ℕ) → t < 8 → ReadyAt y la lb (q + t) 0
  row_ready t h = record { ready = r.ready; unknown = omega (arith, r.room); line = omega (arith, r.one) }

  -- the eight coefficients of unknown p
  pub rows_shown : (p : ℕ) → p < y.b.rows → (t : ℕ) → t < 8 → Within (transposed_of y.a) la p (q + t)
  rows_shown p h t g = record {
    fits = transposed-accepted y.a la r.ready.pivots.a;
    row = subst (λ (m : ℕ). p < m) (sym r.ready.pivots.cols) h;
    col = subst (λ (m : ℕ). q + t < m) (sym r.ready.pivots.rows) (omega (arith, r.room));
  }

-- ---- terms added to each of eight rows, from unknown `from` on

module _ (K : Kind) (S : SelfConjugate K) (C : Commutes K) (y : System) (a b : List K.Cell) (q from : ℕ) (xs : List K.Elem) where
  abbrev row_term : ℕ → ℕ → K.Elem
  row_term t p = line_term K y a b (q + t) 0 p

  abbrev more_rows : ℕ → ℕ → K.Elem
  more_rows n t = plus_terms K (lane K xs t) (row_term t) from n

  -- x is unknown p; the factors are multiplied in the other order
  pub rows_on : (p : ℕ) (ys zs : List K.Elem) (x : K.Elem) → from ≤ p → x ≡ elem K b y.b p 0 → Lanes K 8 ys (more_rows (p - from))
      → Lanes K 8 zs (λ t. K.add (lane K ys t) (K.mul x (elem K a (transposed_of y.a) p (q + t)))) → Lanes K 8 zs (more_rows (p + 1 - from))
  rows_on p ys zs x h read e d = more_on K 8 row_term from xs p ys zs (λ t. K.mul x (elem K a (transposed_of y.a) p (q + t))) h is-term e d
    where
      is-term : (t : ℕ) → K.mul x (elem K a (transposed_of y.a) p (q + t)) ≡ row_term t p
      is-term t =
          C.commutes x (elem K a (transposed_of y.a) p (q + t))
          ∙ (λ i. K.mul ((transposed-elem K a y.a p (q + t) ∙ elem-own K S y.conjugated a y.a (q + t) p) i) (read i))

-- ---- a row's pieces are its sum

module _ (K : Kind) (y : System) (a s : List K.Cell) (q : ℕ) (xs rs : List K.Elem) where
  -- the own term, those behind it among the eight, and those behind the eight
  pub rows_behind : (m : ℕ) → y.last ≡ true → m ≡ y.b.rows → q + 8 ≤ m → Lanes K 8 xs (λ t. own_first K y a s (q + t) 0 (7 - t))
      → Lanes K 8 rs (λ t. plus_terms K (lane K xs t) (line_term K y a s (q + t) 0) (q + 8) (m - 8 - q)) → Lanes K 8 rs (λ t. line_sum K y a s (q + t) 0)
  rows_behind m h counted room near far = record { count = far.count; sum = λ t g. line-behind K y a s (q + t) 0 m (lane K rs t) h counted (far.sum t g ∙ joined t g) }
    where
      joined : (t : ℕ) → t < 8 → plus_terms K (lane K xs t) (line_term K y a s (q + t) 0) (q + 8) (m - 8 - q) ≡ own_first K y a s (q + t) 0 (m - 1 - (q + t))
      joined t g =
          let d : q + 8 ≡ suc (q + t) + (7 - t) = omega arith in
          let c : (7 - t) + (m - 8 - q) ≡ m - 1 - (q + t) = omega arith in
          (λ i. plus_terms K (near.sum t g i) (line_term K y a s (q + t) 0) (d i) (m - 8 - q))
          ∙ run-run K (line_term K y a s (q + t) 0) (K.add K.zero (own K y a s (q + t) 0)) (suc (q + t)) (7 - t) (m - 8 - q)
          ∙ ap (own_first K y a s (q + t) 0) c

  -- the terms before the eight, those before the own one among the eight, and the own one
  pub rows_before : (zs : List K.Elem) (z : K.Elem) → y.last ≡ false → Lanes K 8 zs (λ t. z) → z ≡ K.zero
      → Lanes K 8 xs (λ t. plus_terms K (lane K zs t) (line_term K y a s (q + t) 0) 0 q)
      → Lanes K 8 rs (λ t. own_last K y a s (q + t) 0 (lane K xs t) q (q + t - q)) → Lanes K 8 rs (λ t. line_sum K y a s (q + t) 0)
  rows_before zs z h none begun far near = record { count = near.count; sum = λ t g. line_before K y a s (q + t) 0 K.zero (q + t) (lane K rs t) h refl refl (near.sum t g ∙ joined t g) }
    where
      joined : (t : ℕ) → t < 8 → own_last K y a s (q + t) 0 (lane K xs t) q (q + t - q) ≡ own_last K y a s (q + t) 0 K.zero 0 (q + t)
      joined t g =
          let d : q ≡ 0 + q = omega arith in
          let c : q + (q + t - q) ≡ q + t = omega arith in
          ap (λ (x : K.Elem). K.add x (own K y a s (q + t) 0))
          ((λ i. plus_terms K ((far.sum t g ∙ ap (λ (x : K.Elem). plus_terms K x (line_term K y a s (q + t) 0) 0 q) (none.sum t g ∙ begun)) i) (line_term K y a s (q + t) 0) (d i) (q + t - q))
          ∙ run-run K (line_term K y a s (q + t) 0) K.zero 0 q (q + t - q)
          ∙ ap (plus_terms K K.zero (line_term K y a s (q + t) 0) 0) c)

-- ---- worked out before any of them is written

-- step t of the eight after k others
step-in-eight : (last : Bool) (m k t : ℕ) → k + 8 ≤ m → t < 8 → eight_from last m k + in_order last 8 t ≡ in_order last m (k + t)
step-in-eight true m k t h g = omega arith
step-in-eight false m k t h g = refl

module _ (K : Kind) (L : SlabLaws K) (y : System) (a : List K.Cell) (begin : K.Elem → K.Elem) (apart : Distinct y.b) (l : ℕ) (line : l < y.b.cols) where
  abbrev element_of : ℕ → ℕ
  element_of k = in_order (not y.last) y.b.rows k

  -- an element that is written earlier is not read
  sum-passes : (i j : ℕ) (z : K.Elem) (s : List K.Cell) → i < j → j < y.b.rows
      → line_sum K y a (K.put s (index y.b (element_of i) l) z) (element_of j) l ≡ line_sum K y a s (element_of j) l
  unfolding line_sum
  sum-passes i j z s h g = go y.last
    where
      unread : (r p : ℕ) → r < y.b.rows → p < y.b.rows → (p ≡ r → ⊥) → elem K (K.put s (index y.b r l) z) y.b p l ≡ elem K s y.b p l
      unread r p b c ne = L.at-put-other s (index y.b r l) (index y.b p l) z (λ e. ne (apart.only p l r l c line b line e).0)

      go : (last : Bool)
          → cond last
          (own_first K y a (K.put s (index y.b (in_order (not last) y.b.rows i) l) z) (in_order (not last) y.b.rows j) l (y.b.rows - suc (in_order (not last) y.b.rows j)))
          (own_last K y a (K.put s (index y.b (in_order (not last) y.b.rows i) l) z) (in_order (not last) y.b.rows j) l K.zero 0 (in_order (not last) y.b.rows j))
          ≡ cond last
          (own_first K y a s (in_order (not last) y.b.rows j) l (y.b.rows - suc (in_order (not last) y.b.rows j)))
          (own_last K y a s (in_order (not last) y.b.rows j) l K.zero 0 (in_order (not last) y.b.rows j))
      go true =
          more-cong K (line_term K y a (K.put s (index y.b i l) z) j l) (line_term K y a s j l) (K.add K.zero (own K y a (K.put s (index y.b i l) z) j l)) (K.add K.zero (own K y a s j l)) (suc j) (y.b.rows - suc j)
          (ap (λ (x : K.Elem). K.add K.zero (K.mul (own_diag K y.diag (coefficient K y a j j)) x)) (unread i j (omega arith) g (λ e. omega arith)))
          (λ p c. ap (K.mul (coefficient K y a j (suc j + p))) (unread i (suc j + p) (omega arith) (omega arith) (λ e. omega arith)))
      go false =
          let q = y.b.rows - suc j in
          let r = y.b.rows - suc i in
          λ d. K.add
          (more-cong K (line_term K y a (K.put s (index y.b r l) z) q l) (line_term K y a s q l) K.zero K.zero 0 q refl
          (λ p c. ap (K.mul (coefficient K y a q (0 + p))) (unread r (0 + p) (omega arith) (omega arith) (λ e. omega arith)))
          d)
          (K.mul (own_diag K y.diag (coefficient K y a q q)) (unread r q (omega arith) (omega arith) (λ e. omega arith) d))

  -- element j, with n elements before it written
  unwritten : (k n j : ℕ) → k + n ≤ j → j < y.b.rows → (s : List K.Cell) → line_sum K y a (walk n (λ i. multiply_one K y a begin (k + i) l) s) (element_of j) l ≡ line_sum K y a s (element_of j) l
  unfolding walk multiply_one
  unwritten k zero j h g s = refl
  unwritten k (suc n) j h g s = sum-passes (k + n) j _ (walk n (λ i. multiply_one K y a begin (k + i) l) s) (omega arith) g ∙ unwritten k n j (omega arith) g s

  rows-at-once : (k n : ℕ) (x : ℕ → K.Elem) (s : List K.Cell) → k + n ≤ y.b.rows → ((i : ℕ) → i < n → x i ≡ begin (line_sum K y a s (element_of (k + i)) l))
      → walk n (λ i r. K.put r (index y.b (element_of (k + i)) l) (x i)) s ≡ walk n (λ i. multiply_one K y a begin (k + i) l) s
  unfolding walk multiply_one
  rows-at-once k zero x s h e = refl
  rows-at-once k (suc n) x s h e =
      ap (λ (r : List K.Cell). K.put r (index y.b (element_of (k + n)) l) (x n)) (rows-at-once k n x s (omega arith) (λ i g. e i (omega arith)))
      ∙ ap (K.put (walk n (λ i. multiply_one K y a begin (k + i) l) s) (index y.b (element_of (k + n)) l))
      (e n (omega arith) ∙ ap begin (sym (unwritten k n (k + n) (omega arith) (omega arith) s)))

-- eight elements of a vector, by parts
pub rows-eight-is : (K : Kind) → SlabLaws K → (y : System) (a : List K.Cell) (la lb k first m q : ℕ) (last : Bool) (xs : List K.Elem) (s s' : List K.Cell) → RowsReady y la lb k → first ≤ 8
    → last ≡ not y.last → m ≡ y.b.rows → q ≡ eight_from last m k → Lanes K 8 xs (λ t. line_sum K y a s (q + t) 0) → s' ≡ put_rows K last y.b q first xs (8 - first) s
    → s' ≡ walk (8 - first) (λ i. multiply_one K y a (λ x. x) (k + (first + i)) 0) s
rows-eight-is K L y a la lb k first m q last xs s s' ready short turned counted here summed e =
    e
    ∙ walk-cong _ _ (8 - first) (λ i g r. ap (λ (u : ℕ). K.put r (index y.b u 0) (lane K xs (in_order last 8 (first + i)))) (row i g)) s
    ∙ rows-at-once K L y a (λ x. x) ready.ready.apart 0 (omega (arith, ready.one)) (k + first) (8 - first) (λ i. lane K xs (in_order last 8 (first + i))) s (omega (arith, ready.room))
    (λ i g. summed.sum (in_order last 8 (first + i)) (in-order-lt last 8 (first + i) (omega arith)) ∙ ap (λ (u : ℕ). line_sum K y a s u 0) (row i g))
    ∙ walk-cong _ _ (8 - first) (λ i g r. ap (λ (u : ℕ). multiply_one K y a (λ x. x) u 0 r) (joined i)) s
  where
    joined : (i : ℕ) → k + first + i ≡ k + (first + i)
    joined i = omega arith

    row : (i : ℕ) → i < 8 - first → q + in_order last 8 (first + i) ≡ in_order (not y.last) y.b.rows (k + first + i)
    row i g =
        ap (λ (u : ℕ). u + in_order last 8 (first + i)) (here ∙ ap (λ (c : ℕ). eight_from last c k) counted)
        ∙ step-in-eight last y.b.rows k (first + i) ready.room (omega arith)
        ∙ (λ d. in_order (turned d) y.b.rows (sym (joined i) d))
