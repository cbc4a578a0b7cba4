-- Lines are worked on apart from each other: element after element, each in every line, is line after line; and an element of several lines may
-- be worked out in all of them before it is written in any.
use Prim.Native.Nat.{ℕ, zero, suc, ◌+◌, ◌-◌, ◌<◌, ◌≤◌}
use mathlib.Core.Bool.{Bool, not, cond}
use mathlib.Core.List.{List}
use mathlib.Core.Path.{◌≡◌, refl, ap, sym, ◌∙◌}
use native.Mathlib.Omega.{arith}
use Rattle.number.specs.Kind.{Kind}
use Rattle.number.specs.Laws.{SlabLaws}
use Rattle.number.specs.Laws.{Swaps}
use Rattle.view.specs.declared.View.{View}
use Rattle.view.specs.Place.{index}
use Rattle.slabs.specs.Distinct.{Distinct}
use Rattle.slabs.specs.Eight.{lane, Lanes}
use Rattle.slabs.specs.Elem.{elem}
use Rattle.blas.specs.Substitution.{in_order, least_solved, minus_terms}
use Rattle.blas.proofs.SubstitutionLaws.{minus-cong, in-order-lt, solved-below}
use Rattle.triangle_plan.specs.declared.System.{System}
use Rattle.triangle_plan.specs.Walk.{walk}
use Rattle.triangle_plan.specs.Lanes.{put_lanes}
use Rattle.triangle_plan.specs.Triangles.{coefficient}
use Rattle.triangle_plan.specs.Solve.{by_diag, unknown_value, solve_unknown, solve_unknowns}
use Rattle.triangle_plan.specs.Multiply.{own_diag, own, line_term, line_sum, multiply_one, multiply_across, multiply_all}
use Rattle.triangle_plan.proofs.LineSums.{more-cong}
use Rattle.triangle_plan.proofs.WalkLaws.{walk-exchange}

-- the element of line l that comes after k others is in row k of its line, and is worked out from its line alone
module _ (K : Kind) (v : View) (apart : Distinct v) (row : ℕ → ℕ) (value : ℕ → ℕ → List K.Cell → K.Elem)
    (below : (k : ℕ) → k < v.rows → row k < v.rows)
    (unread : (k l at : ℕ) (z : K.Elem) (s : List K.Cell) → k < v.rows → ((p : ℕ) → p < v.rows → index v p l ≡ at → ⊥) → value k l (K.put s at z) ≡ value k l s) where
  abbrev step : ℕ → ℕ → List K.Cell → List K.Cell
  step k l s = K.put s (index v (row k) l) (value k l s)

  -- elements of two lines, in either order
  either : (W : Swaps K) (k l k' l' : ℕ) → k < v.rows → l < v.cols → k' < v.rows → l' < v.cols → (l ≡ l' → ⊥) → (s : List K.Cell) → step k l (step k' l' s) ≡ step k' l' (step k l s)
  either W k l k' l' h g h' g' ne s =
      ap (K.put (step k' l' s) (index v (row k) l)) (unread k l (index v (row k') l') (value k' l' s) s h (λ p q e. ne (apart.only p l (row k') l' q g (below k' h') g' e).1))
      ∙ W.swap s (index v (row k') l') (index v (row k) l) (value k' l' s) (value k l s) (λ e. ne (apart.only (row k) l (row k') l' (below k h) g (below k' h') g' e).1)
      ∙ sym (ap (K.put (step k l s) (index v (row k') l')) (unread k' l' (index v (row k) l) (value k l s) s h' (λ p q e. ne (sym (apart.only p l' (row k) l q g' (below k h) g e).1))))

  exchange : Swaps K → (m : ℕ) → m ≤ v.rows → (s : List K.Cell) → walk m (λ k. walk v.cols (step k)) s ≡ walk v.cols (λ l. walk m (λ k. step k l)) s
  exchange W m h s = walk-exchange step m v.cols (λ k l k' l' p q p' q' ne r. either W k l k' l' (omega arith) q (omega arith) q' ne r) s

  -- element k of line j, with that of n lines before it written
  unwritten : (k l first n j : ℕ) → k < v.rows → l + (first + n) ≤ j → j < v.cols → (s : List K.Cell) → value k j (walk n (λ i. step k (l + (first + i))) s) ≡ value k j s
  unfolding walk
  unwritten k l first zero j h g b s = refl
  unwritten k l first (suc n) j h g b s =
      unread k j (index v (row k) (l + (first + n))) _ (walk n (λ i. step k (l + (first + i))) s) h
      (λ p q e. behind (apart.only p j (row k) (l + (first + n)) q b (below k h) (omega arith) e).1)
      ∙ unwritten k l first n j h (omega arith) b s
    where
      behind : j ≡ l + (first + n) → ⊥
      behind e = omega arith

  at_once : (k l first n : ℕ) (x : ℕ → K.Elem) (s : List K.Cell) → k < v.rows → l + (first + n) ≤ v.cols → ((i : ℕ) → i < n → x i ≡ value k (l + (first + i)) s)
      → walk n (λ i r. K.put r (index v (row k) (l + (first + i))) (x i)) s ≡ walk n (λ i. step k (l + (first + i))) s
  unfolding walk
  at_once k l first zero x s h g e = refl
  at_once k l first (suc n) x s h g e =
      ap (λ (r : List K.Cell). K.put r (index v (row k) (l + (first + n))) (x n)) (at_once k l first n x s h (omega arith) (λ i b. e i (omega arith)))
      ∙ ap (K.put (walk n (λ i. step k (l + (first + i))) s) (index v (row k) (l + (first + n))))
      (e n (omega arith) ∙ sym (unwritten k l first n (l + (first + n)) h (omega arith) (omega arith) s))

-- ---- the unknowns of a solve

module _ (K : Kind) (L : SlabLaws K) (y : System) (begin : K.Elem → K.Elem) (a : List K.Cell) (apart : Distinct y.b) where
  abbrev unknown_of : ℕ → ℕ
  unknown_of k = in_order y.last y.b.rows k

  abbrev unknown_at : ℕ → ℕ → List K.Cell → K.Elem
  unknown_at k l s = unknown_value K y begin a k (unknown_of k) l s

  unknown-unread : (k l at : ℕ) (z : K.Elem) (s : List K.Cell) → k < y.b.rows → ((p : ℕ) → p < y.b.rows → index y.b p l ≡ at → ⊥)
      → unknown_at k l (K.put s at z) ≡ unknown_at k l s
  unknown-unread k l at z s h other =
      ap (by_diag K y.diag (coefficient K y a (unknown_of k) (unknown_of k)))
      (minus-cong K _ _ _ _ (least_solved y.last y.b.rows k) k
      (ap begin (L.at-put-other s at (index y.b (unknown_of k) l) z (other (unknown_of k) (in-order-lt y.last y.b.rows k h))))
      (λ i g. ap (K.mul (coefficient K y a (unknown_of k) (least_solved y.last y.b.rows k + i)))
      (L.at-put-other s at (index y.b (least_solved y.last y.b.rows k + i) l) z (other (least_solved y.last y.b.rows k + i) (solved-below y.last y.b.rows k i h g)))))

  pub line-after-line : Swaps K → (m : ℕ) → m ≤ y.b.rows → (s : List K.Cell) → solve_unknowns K y begin a y.b.cols m s ≡ walk y.b.cols (λ l. walk m (λ k. solve_unknown K y begin a k l)) s
  unfolding solve_unknown
  line-after-line W m h s = exchange K y.b apart unknown_of unknown_at (in-order-lt y.last y.b.rows) unknown-unread W m h s

  -- an unknown of w lines, by parts
  pub solve-lanes-is : (w k l first end m q from : ℕ) (xs rs ys : List K.Elem) (s s' : List K.Cell) → k < y.b.rows → l + w ≤ y.b.cols → first ≤ end → end ≤ w
      → m ≡ y.b.rows → q ≡ in_order y.last m k → from ≡ least_solved y.last m k → Lanes K w xs (λ t. begin (elem K s y.b q (l + t)))
      → Lanes K w rs (λ t. minus_terms K (lane K xs t) (λ p. K.mul (coefficient K y a q p) (elem K s y.b p (l + t))) from k)
      → Lanes K w ys (λ t. by_diag K y.diag (coefficient K y a q q) (lane K rs t)) → s' ≡ put_lanes K y.b q l first ys (end - first) s
      → s' ≡ walk (end - first) (λ i. solve_unknown K y begin a k (l + (first + i))) s
  unfolding solve_unknown
  solve-lanes-is w k l first end m q from xs rs ys s s' h room order short counted here there begun reduced divided e =
      e
      ∙ ap (λ (u : ℕ). put_lanes K y.b u l first ys (end - first) s) found
      ∙ at_once K y.b apart unknown_of unknown_at (in-order-lt y.last y.b.rows) unknown-unread k l first (end - first) (λ i. lane K ys (first + i)) s h (omega arith)
      (λ i g. worth (first + i) (omega arith))
    where
      found : q ≡ unknown_of k
      found = here ∙ ap (λ (c : ℕ). in_order y.last c k) counted

      since : from ≡ least_solved y.last y.b.rows k
      since = there ∙ ap (λ (c : ℕ). least_solved y.last c k) counted

      worth : (t : ℕ) → t < w → lane K ys t ≡ unknown_at k (l + t) s
      worth t g =
          divided.sum t g
          ∙ ap (by_diag K y.diag (coefficient K y a q q))
          (reduced.sum t g ∙ ap (λ (x : K.Elem). minus_terms K x (λ p. K.mul (coefficient K y a q p) (elem K s y.b p (l + t))) from k) (begun.sum t g))
          ∙ (λ i. by_diag K y.diag (coefficient K y a (found i) (found i))
          (minus_terms K (begin (elem K s y.b (found i) (l + t))) (λ p. K.mul (coefficient K y a (found i) p) (elem K s y.b p (l + t))) (since i) k))

-- ---- the elements of a product

module _ (K : Kind) (L : SlabLaws K) (y : System) (a : List K.Cell) (begin : K.Elem → K.Elem) (apart : Distinct y.b) where
  abbrev element_of : ℕ → ℕ
  element_of k = in_order (not y.last) y.b.rows k

  abbrev element_at : ℕ → ℕ → List K.Cell → K.Elem
  element_at k l s = begin (line_sum K y a s (element_of k) l)

  sum-unread : (q l at : ℕ) (z : K.Elem) (s : List K.Cell) → q < y.b.rows → ((p : ℕ) → p < y.b.rows → index y.b p l ≡ at → ⊥)
      → line_sum K y a (K.put s at z) q l ≡ line_sum K y a s q l
  unfolding line_sum
  sum-unread q l at z s h other =
      λ i. cond y.last
      (more-cong K (line_term K y a (K.put s at z) q l) (line_term K y a s q l) _ _ (suc q) (y.b.rows - suc q) (ap (K.add K.zero) itself) (λ p g. term (suc q + p) (omega arith)) i)
      (K.add (more-cong K (line_term K y a (K.put s at z) q l) (line_term K y a s q l) K.zero K.zero 0 q refl (λ p g. term (0 + p) (omega arith)) i) (itself i))
    where
      term : (p : ℕ) → p < y.b.rows → line_term K y a (K.put s at z) q l p ≡ line_term K y a s q l p
      term p g = ap (K.mul (coefficient K y a q p)) (L.at-put-other s at (index y.b p l) z (other p g))

      itself : own K y a (K.put s at z) q l ≡ own K y a s q l
      itself = ap (K.mul (own_diag K y.diag (coefficient K y a q q))) (L.at-put-other s at (index y.b q l) z (other q h))

  element-below : (k : ℕ) → k < y.b.rows → element_of k < y.b.rows
  element-below = in-order-lt (not y.last) y.b.rows

  element-unread : (k l at : ℕ) (z : K.Elem) (s : List K.Cell) → k < y.b.rows → ((p : ℕ) → p < y.b.rows → index y.b p l ≡ at → ⊥)
      → element_at k l (K.put s at z) ≡ element_at k l s
  element-unread k l at z s h other = ap begin (sum-unread (element_of k) l at z s (element-below k h) other)

  pub element-after-element : Swaps K → (m : ℕ) (s₀ s : List K.Cell) → m ≡ y.b.rows → s ≡ walk m (λ k. multiply_across K y a begin k) s₀ → s ≡ multiply_all K y a begin s₀
  unfolding multiply_one
  element-after-element W m s₀ s counted e =
      e
      ∙ ap (λ (n : ℕ). walk n (λ k. multiply_across K y a begin k) s₀) counted
      ∙ exchange K y.b apart element_of element_at element-below element-unread W y.b.rows (omega arith) s₀

  -- an element of w lines, by parts
  pub multiply-lanes-is : (w k l first m q : ℕ) (last : Bool) (xs ys : List K.Elem) (s s' : List K.Cell) → k < y.b.rows → l + w ≤ y.b.cols → first ≤ w → last ≡ not y.last
      → m ≡ y.b.rows → q ≡ in_order last m k → Lanes K w xs (λ t. line_sum K y a s q (l + t)) → Lanes K w ys (λ t. begin (lane K xs t))
      → s' ≡ put_lanes K y.b q l first ys (w - first) s → s' ≡ walk (w - first) (λ i. multiply_one K y a begin k (l + (first + i))) s
  unfolding multiply_one
  multiply-lanes-is w k l first m q last xs ys s s' h room short turned counted here summed weighed e =
      e
      ∙ ap (λ (u : ℕ). put_lanes K y.b u l first ys (w - first) s) found
      ∙ at_once K y.b apart element_of element_at element-below element-unread k l first (w - first) (λ i. lane K ys (first + i)) s h (omega arith)
      (λ i g. worth (first + i) (omega arith))
    where
      found : q ≡ element_of k
      found = here ∙ (λ i. in_order (turned i) (counted i) k)

      worth : (t : ℕ) → t < w → lane K ys t ≡ element_at k (l + t) s
      worth t g = weighed.sum t g ∙ ap begin (summed.sum t g ∙ ap (λ (u : ℕ). line_sum K y a s u (l + t)) found)
