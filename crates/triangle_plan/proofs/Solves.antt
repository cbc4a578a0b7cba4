-- A solve over a system is the definition's substitution: one unknown, how far it goes, and what it then gives.
use Prim.Native.Nat.{ℕ, zero, suc, ◌+◌, ◌*◌, ◌≤◌, ◌<◌}
use mathlib.Core.Bool.{Bool, true, false, cond, ◌&&◌}
use mathlib.Core.List.{List}
use mathlib.Core.Path.{◌≡◌, refl, ap, sym, subst, ◌∙◌}
use native.Mathlib.Decide.{ℕ_discrete}
use native.Mathlib.Nat.{mul_comm}
use native.Mathlib.Omega.{arith}
use borrow.Author.Tests.{lt-ltb, le-ltb, ltb-true, ltb-false}
use lib.Arith.{digits_lt, digits_div, digits_mod}
use lib.Dec.{ltb}
use Rattle.number.specs.Kind.{Kind}
use Rattle.number.specs.Laws.{SlabLaws}
use Rattle.number.specs.Laws.{Swaps}
use Rattle.view.specs.declared.View.{View}
use Rattle.view.specs.declared.Answer.{Answer}
use Rattle.view.specs.declared.Answer.TheVariants.{Done, Singular}
use Rattle.view.specs.declared.Side.{Side}
use Rattle.view.specs.declared.Side.TheVariants.{Left, Right}
use Rattle.view.specs.declared.Trans.{Trans}
use Rattle.view.specs.declared.UpLo.{UpLo}
use Rattle.view.specs.declared.Diag.{Diag}
use Rattle.view.specs.declared.Diag.TheVariants.{NonUnit, Unit}
use Rattle.view.specs.Any.{any}
use Rattle.view.proofs.AnyLaws.{found, finds, and_both, and_left, and_right, is_false, clash}
use Rattle.view.specs.Checks.{order_of}
use Rattle.view.specs.Judge.{answer_number}
use Rattle.view.specs.Place.{index}
use Rattle.slabs.specs.Elem.{elem}
use Rattle.slabs.specs.Distinct.{Distinct}
use Rattle.blas.specs.Matrix.{Matrix, op}
use Rattle.blas.specs.Outcome.{Outcome, Gives}
use Rattle.blas.specs.Substitution.{unknown_at, unknown, brings, last_first, in_order, least_solved, turn_of, line_of, elements_before, first_at, minus_terms, by_pivot, zero_pivot, solved, singular, substituted}
use Rattle.blas.specs.Substitution as substitution
use Rattle.blas.proofs.SubstitutionLaws.{in-order-lt, in-order-twice, first-is, first-none, first-lt, first-true, first-le, factor-pos}
use Rattle.triangle_plan.specs.declared.System.{System}
use Rattle.triangle_plan.specs.Walk.{walk}
use Rattle.triangle_plan.specs.Triangles.{lines_view, system_of, coefficient}
use Rattle.triangle_plan.specs.Solve.{by_diag, zero_diag, solve_unknown, solve_unknowns, zero_after, first_zero, stops, answered, lines_solved, Solved}
use Rattle.triangle_plan.proofs.WalkLaws.{walk-cong, walk-nested, walk-rounds}
use Rattle.number.specs.Laws.{Commutes}
use Rattle.triangle_plan.proofs.Lines.{line-after-line}
use Rattle.triangle_plan.proofs.Systems.{op_sided, coefficient-is, diagonal-is, turn, line, lines-index, lines-elem}

-- ---- the first number at which a test passes, as a loop that counts by one meets it

-- f fails at every number below n
pub record Clear (f : ℕ → Bool) (n : ℕ) : Type 0 where
  pub none : (i : ℕ) → i < n → f i ≡ false

pub clear-start : (f : ℕ → Bool) → Clear f 0
clear-start f = record { none = λ i h. absurd (nothing i h) }
  where
    nothing : (i : ℕ) → i < 0 → ⊥
    nothing i h = omega arith

pub clear_next : (f : ℕ → Bool) (n : ℕ) (b : Bool) → Clear f n → b ≡ f n → b ≡ false → Clear f (n + 1)
clear_next f n b cleared told h = record { none = λ i g. go i (ℕ_discrete i n) g }
  where
    go : (i : ℕ) → Dec (i ≡ n) → i < n + 1 → f i ≡ false
    go i (yes e) g = ap f e ∙ sym told ∙ h
    go i (no q) g = cleared.none i (omega arith)

-- a loop that stops at k
pub first_found : (f : ℕ → Bool) (n k : ℕ) (b : Bool) → k < n → Clear f k → b ≡ f k → b ≡ true → k ≡ first_at n f
first_found f n k b h cleared told t = sym (first-is n f k h (sym told ∙ t) cleared.none)

-- and one that does not stop
pub first_nowhere : (f : ℕ → Bool) (n k : ℕ) → n ≤ k → Clear f k → n ≡ first_at n f
first_nowhere f n k h cleared = sym (first-none n f (λ i g. cleared.none i (omega arith)))

-- ---- one unknown is the definition's

order_is : (side : Side) (v : View) → (lines_view side v).rows ≡ order_of side v
order_is Left v = refl
order_is Right v = refl

by-diag-is : (K : Kind) (diag : Diag) (t : Trans) (a : Matrix K) (q : ℕ) (c x z : K.Elem) → c ≡ op K t a q q → x ≡ z → by_diag K diag c x ≡ by_pivot K diag t a q z
by-diag-is K NonUnit t a q c x z e h = λ i. K.div (h i) (e i)
by-diag-is K Unit t a q c x z e h = h

zero-diag-is : (K : Kind) (diag : Diag) (a : Matrix K) (q : ℕ) (c : K.Elem) → c ≡ a q q → zero_diag K diag c ≡ zero_pivot K diag a q
zero-diag-is K NonUnit a q c e = ap K.is_zero e
zero-diag-is K Unit a q c e = refl

same-pivot : (K : Kind) (side : Side) (t : Trans) (a : Matrix K) (q : ℕ) → op_sided K side t a q q ≡ op K t a q q
same-pivot K Left t a q = refl
same-pivot K Right t a q = refl

brings-is : (K : Kind) (C : Commutes K) (side : Side) (t : Trans) (a : Matrix K) (q p : ℕ) (c x z : K.Elem) → c ≡ op_sided K side t a q p → x ≡ z → K.mul c x ≡ brings K side t a q p z
brings-is K C Left t a q p c x z e h = λ i. K.mul (e i) (h i)
brings-is K C Right t a q p c x z e h = C.commutes c x ∙ (λ i. K.mul (h i) (e i))

module _ (K : Kind) (side : Side) (uplo : UpLo) (t : Trans) (diag : Diag) (begin : K.Elem → K.Elem) (va vb : View) (sa : List K.Cell) where
  abbrev y : System
  y = system_of side uplo t diag va vb

  abbrev a : Matrix K
  a = elem K sa va

  abbrev last : Bool
  last = last_first side uplo t

  abbrev m : ℕ
  m = order_of side vb

  one-is : (C : Commutes K) (k l : ℕ) (s : List K.Cell) → solve_unknown K y begin sa k l s ≡ substitution.solve_one K side uplo t diag begin a vb k l s
  unfolding solve_unknown substitution.solve_one
  one-is C k l s = ap from-order (order_is side vb) ∙ at-order (in_order last m k) (least_solved last m k)
    where
      from-order : ℕ → List K.Cell
      from-order c =
          K.put s (index (lines_view side vb) (in_order last c k) l)
          (by_diag K diag (coefficient K y sa (in_order last c k) (in_order last c k))
          (minus_terms K (begin (elem K s (lines_view side vb) (in_order last c k) l))
          (λ p. K.mul (coefficient K y sa (in_order last c k) p) (elem K s (lines_view side vb) p l))
          (least_solved last c k) k))

      at-order : (q from : ℕ)
          → K.put s (index (lines_view side vb) q l)
          (by_diag K diag (coefficient K y sa q q) (minus_terms K (begin (elem K s (lines_view side vb) q l)) (λ p. K.mul (coefficient K y sa q p) (elem K s (lines_view side vb) p l)) from k))
          ≡ K.put s (unknown_at side vb q l) (by_pivot K diag t a q (minus_terms K (begin (unknown K side s vb q l)) (λ p. brings K side t a q p (unknown K side s vb p l)) from k))
      at-order q from =
          λ i. K.put s (lines-index side vb q l i)
          (by-diag-is K diag t a q _ _ _ (coefficient-is K uplo t diag va vb sa side q q ∙ same-pivot K side t a q)
          (λ j. minus_terms K (begin (lines-elem K s side vb q l j))
          (λ p. brings-is K C side t a q p _ _ _ (coefficient-is K uplo t diag va vb sa side q p) (lines-elem K s side vb p l) j) from k)
          i)

  zero_is : (k : ℕ) → zero_after K y sa k ≡ zero_pivot K diag a (in_order last m k)
  unfolding zero_after
  zero_is k =
      zero-diag-is K diag a (in_order last (lines_view side vb).rows k) _ (diagonal-is K uplo t diag va vb sa side (in_order last (lines_view side vb).rows k))
      ∙ ap (λ (c : ℕ). zero_pivot K diag a (in_order last c k)) (order_is side vb)

  first-is-first : first_zero K y sa ≡ first_at m (λ k. zero_pivot K diag a (in_order last m k))
  first-is-first = λ i. first_at (order_is side vb i) (λ k. zero_is k i)

  -- ---- elements one after another

  -- the n-th element in solving order
  abbrev nth : ℕ → List K.Cell → List K.Cell
  nth n = substitution.solve_one K side uplo t diag begin a vb (turn_of side vb n) (line_of side vb n)

  solved-walk : (n : ℕ) (s : List K.Cell) → walk n nth s ≡ solved K side uplo t diag begin a vb n s
  unfolding walk solved
  solved-walk zero s = refl
  solved-walk (suc n) s = ap (nth n) (solved-walk n s)

-- element i of column o of B is number o * rows + i
turn-digits : (side : Side) (v : View) (o i : ℕ) → i < v.rows → turn_of side v (o * v.rows + i) ≡ turn side i o
turn-digits Left v o i h = digits_mod o h
turn-digits Right v o i h = digits_div o h

line-digits : (side : Side) (v : View) (o i : ℕ) → i < v.rows → line_of side v (o * v.rows + i) ≡ line side i o
line-digits Left v o i h = digits_div o h
line-digits Right v o i h = digits_mod o h

module _ (K : Kind) (C : Commutes K) (side : Side) (uplo : UpLo) (t : Trans) (diag : Diag) (begin : K.Elem → K.Elem) (va vb : View) (sa s₀ : List K.Cell) where
  abbrev sys : System
  sys = system_of side uplo t diag va vb

  abbrev mat : Matrix K
  mat = elem K sa va

  digit-is : (o i : ℕ) → i < vb.rows → (s : List K.Cell)
      → solve_unknown K sys begin sa (turn side i o) (line side i o) s ≡ nth K side uplo t diag begin va vb sa (o * vb.rows + i) s
  digit-is o i h s =
      one-is K side uplo t diag begin va vb sa C (turn side i o) (line side i o) s
      ∙ (λ j. substitution.solve_one K side uplo t diag begin mat vb (sym (turn-digits side vb o i h) j) (sym (line-digits side vb o i h) j) s)

  -- c columns of B
  columns-are : (c : ℕ) → walk c (λ o. walk vb.rows (λ i. solve_unknown K sys begin sa (turn side i o) (line side i o))) s₀ ≡ solved K side uplo t diag begin mat vb (c * vb.rows) s₀
  columns-are c =
      walk-cong (λ o. walk vb.rows (λ i. solve_unknown K sys begin sa (turn side i o) (line side i o))) (λ o. walk vb.rows (λ i. nth K side uplo t diag begin va vb sa (o * vb.rows + i))) c
      (λ o h s. walk-cong (λ i. solve_unknown K sys begin sa (turn side i o) (line side i o)) (λ i. nth K side uplo t diag begin va vb sa (o * vb.rows + i)) vb.rows (λ i g r. digit-is o i g r) s)
      s₀
      ∙ walk-nested (nth K side uplo t diag begin va vb sa) vb.rows c s₀
      ∙ solved-walk K side uplo t diag begin va vb sa (c * vb.rows) s₀

  -- the first k elements of the first column
  begun-is : (k : ℕ) → k ≤ vb.rows → walk k (λ i. solve_unknown K sys begin sa (turn side i 0) (line side i 0)) s₀ ≡ solved K side uplo t diag begin mat vb k s₀
  begun-is k h =
      walk-cong (λ i. solve_unknown K sys begin sa (turn side i 0) (line side i 0)) (nth K side uplo t diag begin va vb sa) k (λ i g r. digit-is 0 i (omega arith) r ∙ ap (λ (n : ℕ). nth K side uplo t diag begin va vb sa n r) (from_zero i)) s₀
      ∙ solved-walk K side uplo t diag begin va vb sa k s₀
    where
      from_zero : (i : ℕ) → 0 * vb.rows + i ≡ i
      from_zero i = omega arith

-- ---- what a solve gives

module _ (K : Kind) (x z : Outcome K) (r : Answer) (s : List K.Cell) where
  gives-first : (b : Bool) → b ≡ true → Gives K x r s → Gives K (cond b x z) r s
  gives-first true e g = g
  gives-first false e g = absurd (clash e refl)

  gives-second : (b : Bool) → b ≡ false → Gives K z r s → Gives K (cond b x z) r s
  gives-second true e g = absurd (clash refl e)
  gives-second false e g = g

-- what a solve answers and leaves, by whether it stops
record Ends (K : Kind) (y : System) (a : List K.Cell) (reached : ℕ → List K.Cell) (whole : List K.Cell) (r : Answer) (s : List K.Cell) : Type 0 where
  answer : r ≡ answered (stops y (first_zero K y a))
  slab : s ≡ cond (stops y (first_zero K y a)) (reached (first_zero K y a)) whole

-- there are elements where there are unknowns and lines
some-elements : (side : Side) (v : View) (k : ℕ) → k < (lines_view side v).rows → 0 < (lines_view side v).cols → 0 < v.rows * v.cols
some-elements Left v k h g = let w : 0 * v.cols + 0 < v.rows * v.cols = digits_lt (omega arith) g in omega (arith, w)
some-elements Right v k h g = let w : 0 * v.cols + 0 < v.rows * v.cols = digits_lt g (omega arith) in omega (arith, w)

some-lines : (side : Side) (v : View) → 0 < v.rows * v.cols → 0 < (lines_view side v).cols
some-lines Left v h = factor-pos 0 v.cols v.rows (subst (λ (n : ℕ). 0 < n) (mul_comm v.rows v.cols) h)
some-lines Right v h = factor-pos 0 v.rows v.cols h

module _ (K : Kind) (side : Side) (uplo : UpLo) (t : Trans) (diag : Diag) (begin : K.Elem → K.Elem) (va vb : View) (sa s₀ : List K.Cell)
    (reached : ℕ → List K.Cell) (whole : List K.Cell)
    (reaches : (k : ℕ) → k < (lines_view side vb).rows → reached k ≡ solved K side uplo t diag begin (elem K sa va) vb (elements_before side vb k) s₀)
    (wholly : whole ≡ solved K side uplo t diag begin (elem K sa va) vb (vb.rows * vb.cols) s₀)
    (r : Answer) (s : List K.Cell) (h : Ends K (system_of side uplo t diag va vb) sa reached whole r s) where
  abbrev sys' : System
  sys' = system_of side uplo t diag va vb

  abbrev mat' : Matrix K
  mat' = elem K sa va

  abbrev first : ℕ
  first = first_zero K sys' sa

  abbrev lastly : Bool
  lastly = last_first side uplo t

  abbrev order : ℕ
  order = order_of side vb

  abbrev total : ℕ
  total = vb.rows * vb.cols

  abbrev zero_at : ℕ → Bool
  zero_at q = zero_pivot K diag mat' q

  abbrev gives : Type 0
  gives = Gives K (substituted K side uplo t diag begin mat' vb s₀) r s

  -- it stops at a zero pivot
  module _ (e : stops sys' first ≡ true) where
    below : first < (lines_view side vb).rows
    unfolding stops
    below = ltb-true first (lines_view side vb).rows (and_right (ltb 0 (lines_view side vb).cols) (ltb first (lines_view side vb).rows) e)

    lines : 0 < (lines_view side vb).cols
    unfolding stops
    lines = ltb-true 0 (lines_view side vb).cols (and_left (ltb 0 (lines_view side vb).cols) (ltb first (lines_view side vb).rows) e)

    zero-there : zero_at (in_order lastly order first) ≡ true
    zero-there = sym (zero_is K side uplo t diag begin va vb sa first) ∙ first-true (lines_view side vb).rows (zero_after K sys' sa) below

    is-singular : singular K side uplo t diag begin mat' vb ≡ true
    is-singular =
        and_both (ltb 0 total) (any order zero_at) (lt-ltb 0 total (some-elements side vb first below lines))
        (found order zero_at (in_order lastly order first) (in-order-lt lastly order first (subst (λ (n : ℕ). first < n) (order_is side vb) below)) zero-there)

    gives-stop : gives
    unfolding substituted
    gives-stop =
        gives-first K _ _ r s (singular K side uplo t diag begin mat' vb) is-singular
        (record {
          answer = ap answer_number (h.answer ∙ ap answered e);
          slab =
              h.slab
              ∙ ap (λ (b : Bool). cond b (reached first) whole) e
              ∙ reaches first below
              ∙ ap (λ (k : ℕ). solved K side uplo t diag begin mat' vb (elements_before side vb k) s₀) (first-is-first K side uplo t diag begin va vb sa);
        })

  -- it does not
  module _ (e : stops sys' first ≡ false) where
    not-singular : singular K side uplo t diag begin mat' vb ≡ false
    unfolding stops
    not-singular =
        is_false (singular K side uplo t diag begin mat' vb)
        (λ g.
        let w = finds order zero_at (and_right (ltb 0 total) (any order zero_at) g) in
        let q : ℕ = in_order lastly order w.0 in
        let here : q < (lines_view side vb).rows = subst (λ (n : ℕ). q < n) (sym (order_is side vb)) (in-order-lt lastly order w.0 w.1) in
        let zero-here : zero_after K sys' sa q ≡ true = zero_is K side uplo t diag begin va vb sa q ∙ ap zero_at (in-order-twice lastly order w.0 w.1) ∙ w.2 in
        clash
        (and_both (ltb 0 (lines_view side vb).cols) (ltb first (lines_view side vb).rows)
        (lt-ltb 0 (lines_view side vb).cols (some-lines side vb (ltb-true 0 total (and_left (ltb 0 total) (any order zero_at) g))))
        (lt-ltb first (lines_view side vb).rows (first-lt (lines_view side vb).rows (zero_after K sys' sa) q here zero-here)))
        e)

    gives_all : gives
    unfolding substituted
    gives_all =
        gives-second K _ _ r s (singular K side uplo t diag begin mat' vb) not-singular
        (record {
          answer = ap answer_number (h.answer ∙ ap answered e);
          slab = h.slab ∙ ap (λ (b : Bool). cond b (reached first) whole) e ∙ wholly;
        })

  solve-gives : gives
  solve-gives = go (stops sys' first) refl
    where
      go : (b : Bool) → stops sys' first ≡ b → gives
      go true e = gives-stop e
      go false e = gives_all e

-- ---- how far a solve goes

module _ (K : Kind) (y : System) (a : List K.Cell) where
  abbrev reach : ℕ
  reach = first_zero K y a

  reach-le : reach ≤ y.b.rows
  reach-le = first-le y.b.rows (zero_after K y a)

  pub unknowns_in : (k : ℕ) → k ≡ first_zero K y a → k ≤ y.b.rows
  unknowns_in k met = subst (λ (n : ℕ). n ≤ y.b.rows) (sym met) reach-le

  stops-below : 0 < y.b.cols → reach < y.b.rows → stops y reach ≡ true
  unfolding stops
  stops-below h g = and_both (ltb 0 y.b.cols) (ltb reach y.b.rows) (lt-ltb 0 y.b.cols h) (lt-ltb reach y.b.rows g)

  stops-not : y.b.rows ≤ reach → stops y reach ≡ false
  unfolding stops
  stops-not g =
      is_false (ltb 0 y.b.cols && ltb reach y.b.rows)
      (λ e. clash (and_right (ltb 0 y.b.cols) (ltb reach y.b.rows) e) (le-ltb reach y.b.rows g))

  -- one that does not stop has solved all unknowns, if there is a line
  all-solved : stops y reach ≡ false → (l : ℕ) → l < y.b.cols → reach ≡ y.b.rows
  all-solved e l h =
      both reach-le
      (ltb-false reach y.b.rows (is_false (ltb reach y.b.rows) (λ g. clash (stops-below (some h) (ltb-true reach y.b.rows g)) e)))
    where
      some : l < y.b.cols → 0 < y.b.cols
      some h = omega arith

      both : reach ≤ y.b.rows → y.b.rows ≤ reach → reach ≡ y.b.rows
      both g h = omega arith

-- ---- a solve by lines is the definition's

module _ (K : Kind) (C : Commutes K) (uplo : UpLo) (t : Trans) (diag : Diag) (begin : K.Elem → K.Elem) (va vb : View) (sa s₀ : List K.Cell) (r : Answer) (s : List K.Cell) where
  abbrev leftly : System
  leftly = system_of Left uplo t diag va vb

  abbrev rightly : System
  rightly = system_of Right uplo t diag va vb

  left-gives : SlabLaws K → Swaps K → Distinct vb → Solved K leftly begin sa s₀ r s → Gives K (substituted K Left uplo t diag begin (elem K sa va) vb s₀) r s
  unfolding walk
  left-gives L W apart h =
      solve-gives K Left uplo t diag begin va vb sa s₀
      (λ k. walk k (λ i. solve_unknown K leftly begin sa i 0) s₀)
      (walk vb.cols (λ l. walk vb.rows (λ k. solve_unknown K leftly begin sa k l)) s₀)
      (λ k g. begun-is K C Left uplo t diag begin va vb sa s₀ k (omega arith))
      (columns-are K C Left uplo t diag begin va vb sa s₀ vb.cols ∙ ap (λ (n : ℕ). solved K Left uplo t diag begin (elem K sa va) vb n s₀) (mul_comm vb.cols vb.rows))
      r
      s
      (record { answer = h.answer; slab = h.slab ∙ by_lines (stops leftly (reach K leftly sa)) refl })
    where
      by_lines : (b : Bool) → stops leftly (reach K leftly sa) ≡ b → solve_unknowns K leftly begin sa (lines_solved Left b vb.cols) (reach K leftly sa) s₀
          ≡ cond b (walk (reach K leftly sa) (λ i. solve_unknown K leftly begin sa i 0) s₀) (walk vb.cols (λ l. walk vb.rows (λ k. solve_unknown K leftly begin sa k l)) s₀)
      by_lines true e = refl
      by_lines false e =
          line-after-line K L leftly begin sa apart W (reach K leftly sa) (reach-le K leftly sa) s₀
          ∙ walk-cong (λ l. walk (reach K leftly sa) (λ k. solve_unknown K leftly begin sa k l)) (λ l. walk vb.rows (λ k. solve_unknown K leftly begin sa k l)) vb.cols
          (λ l h q. ap (λ (n : ℕ). walk n (λ k. solve_unknown K leftly begin sa k l) q) (all-solved K leftly sa e l h))
          s₀

  right-gives : Solved K rightly begin sa s₀ r s → Gives K (substituted K Right uplo t diag begin (elem K sa va) vb s₀) r s
  right-gives h =
      solve-gives K Right uplo t diag begin va vb sa s₀
      (λ k. solve_unknowns K rightly begin sa vb.rows k s₀)
      (solve_unknowns K rightly begin sa vb.rows vb.cols s₀)
      (λ k g. columns-are K C Right uplo t diag begin va vb sa s₀ k)
      (columns-are K C Right uplo t diag begin va vb sa s₀ vb.cols ∙ ap (λ (n : ℕ). solved K Right uplo t diag begin (elem K sa va) vb n s₀) (mul_comm vb.cols vb.rows))
      r
      s
      (record { answer = h.answer; slab = h.slab ∙ by-unknowns (stops rightly (reach K rightly sa)) refl })
    where
      by-unknowns : (b : Bool) → stops rightly (reach K rightly sa) ≡ b → solve_unknowns K rightly begin sa vb.rows (reach K rightly sa) s₀
          ≡ cond b (solve_unknowns K rightly begin sa vb.rows (reach K rightly sa) s₀) (solve_unknowns K rightly begin sa vb.rows vb.cols s₀)
      by-unknowns true e = refl
      by-unknowns false e = walk-rounds (solve_unknown K rightly begin sa) (reach K rightly sa) vb.cols vb.rows (all-solved K rightly sa e) s₀

  pub solved-gives : SlabLaws K → Swaps K → (side : Side) (y : System) → y ≡ system_of side uplo t diag va vb → Distinct vb → Solved K y begin sa s₀ r s
      → Gives K (substituted K side uplo t diag begin (elem K sa va) vb s₀) r s
  solved-gives L W Left y made apart h = left-gives L W apart (subst (λ (x : System). Solved K x begin sa s₀ r s) made h)
  solved-gives L W Right y made apart h = right-gives (subst (λ (x : System). Solved K x begin sa s₀ r s) made h)

-- ---- the ways out of a solve

-- the lines that are solved are lines of B
pub lines_in : (side : Side) (y : System) (k c : ℕ) (b : Bool) → b ≡ stops y k → c ≡ lines_solved side b y.b.cols → c ≤ y.b.cols
unfolding stops
lines_in Left y k c true told e =
    let h : 0 < y.b.cols = ltb-true 0 y.b.cols (and_left (ltb 0 y.b.cols) (ltb k y.b.rows) (sym told)) in
    omega (arith, h, e)
lines_in Left y k c false told e = omega arith
lines_in Right y k c b told e = omega arith

module _ (K : Kind) (y : System) (begin : K.Elem → K.Elem) (a s₀ : List K.Cell) where
  -- a vector, of one line
  module _ (k : ℕ) (s : List K.Cell) (one : y.b.cols ≡ 1) (met : k ≡ first_zero K y a) (e : s ≡ walk k (λ i. solve_unknown K y begin a i 0) s₀) where
    one_line : (side : Side) (b : Bool) → 1 ≡ lines_solved side b y.b.cols
    one_line Left true = refl
    one_line Left false = sym one
    one_line Right b = sym one

    vector-left : s ≡ solve_unknowns K y begin a (lines_solved y.side (stops y (first_zero K y a)) y.b.cols) (first_zero K y a) s₀
    unfolding walk
    vector-left = e ∙ (λ i. solve_unknowns K y begin a (one_line y.side (stops y (first_zero K y a)) i) (met i) s₀)

    pub vector_stopped : k < y.b.rows → Solved K y begin a s₀ Singular s
    vector_stopped h = record { answer = sym (ap answered (stops-below K y a (omega arith) (omega (arith, h, met)))); slab = vector-left }

    pub vector_done : y.b.rows ≤ k → Solved K y begin a s₀ Done s
    vector_done h = record { answer = sym (ap answered (stops-not K y a (omega (arith, h, met)))); slab = vector-left }
