-- A line's sum, of its own term and the run behind or before it, is the definition's sum over the admitted indices.
use Prim.Native.Nat.{ℕ, zero, suc, ◌+◌, ◌-◌, ◌≤◌, ◌<◌}
use mathlib.Core.Bool.{Bool, true, false, not, cond}
use mathlib.Core.List.{List}
use mathlib.Core.Path.{◌≡◌, refl, ap, sym, ◌∙◌}
use native.Mathlib.Omega.{arith}
use borrow.Author.Tests.{le-leb, lt-leb, eq-eqb, ne_eqb}
use lib.Dec.{leb}
use Rattle.number.specs.Kind.{Kind}
use Rattle.view.specs.declared.View.{View}
use Rattle.view.specs.declared.Trans.{Trans}
use Rattle.view.specs.declared.UpLo.{UpLo}
use Rattle.view.specs.declared.Diag.{Diag}
use Rattle.view.specs.declared.Diag.TheVariants.{NonUnit, Unit}
use Rattle.view.specs.declared.Side.{Side}
use Rattle.view.specs.declared.Side.TheVariants.{Left, Right}
use Rattle.view.specs.Checks.{order_of}
use Rattle.slabs.specs.Eight.{lane, Lanes}
use Rattle.slabs.specs.Elem.{elem}
use Rattle.slabs.specs.Run.{plus_terms}
use Rattle.blas.specs.Matrix.{Matrix, op, sum_over}
use Rattle.blas.specs.Triangular.{op_upper, in_op, triangular}
use Rattle.blas.specs.Substitution.{unknown, last_first}
use Rattle.triangle_plan.specs.declared.System.{System}
use Rattle.triangle_plan.specs.Triangles.{system_of, coefficient}
use Rattle.triangle_plan.specs.Multiply.{own_diag, own, line_term, own_first, own_last, line_sum}
use Rattle.number.specs.Laws.{Commutes}
use Rattle.triangle_plan.proofs.Systems.{coefficient-is, lines-elem}

-- ---- a sum over the indices from q on, or up to q

module _ (K : Kind) (f : ℕ → K.Elem) (q : ℕ) where
  abbrev from-q : ℕ → Bool
  from-q p = leb q p

  abbrev to-q : ℕ → Bool
  to-q p = leb p q

  none_yet : (n : ℕ) → n ≤ q → sum_over K n from-q f ≡ K.zero
  unfolding sum_over
  none_yet zero h = refl
  none_yet (suc n) h =
      ap (λ (b : Bool). cond b (K.add (sum_over K n from-q f) (f n)) (sum_over K n from-q f)) (lt-leb q n (omega arith)) ∙ none_yet n (omega arith)

  over-behind : (k : ℕ) → sum_over K (suc q + k) from-q f ≡ plus_terms K (K.add K.zero (f q)) f (suc q) k
  unfolding sum_over plus_terms
  over-behind zero =
      let e : suc q + 0 ≡ suc q = omega arith in
      ap (λ (n : ℕ). sum_over K n from-q f) e
      ∙ ap (λ (b : Bool). cond b (K.add (sum_over K q from-q f) (f q)) (sum_over K q from-q f)) (le-leb q q (omega arith))
      ∙ ap (λ (x : K.Elem). K.add x (f q)) (none_yet q (omega arith))
  over-behind (suc k) =
      let e : suc q + suc k ≡ suc (suc q + k) = omega arith in
      ap (λ (n : ℕ). sum_over K n from-q f) e
      ∙ ap (λ (b : Bool). cond b (K.add (sum_over K (suc q + k) from-q f) (f (suc q + k))) (sum_over K (suc q + k) from-q f)) (le-leb q (suc q + k) (omega arith))
      ∙ ap (λ (x : K.Elem). K.add x (f (suc q + k))) (over-behind k)

  all-so-far : (n : ℕ) → n ≤ suc q → sum_over K n to-q f ≡ plus_terms K K.zero f 0 n
  unfolding sum_over plus_terms
  all-so-far zero h = refl
  all-so-far (suc n) h =
      let e : n ≡ 0 + n = omega arith in
      ap (λ (b : Bool). cond b (K.add (sum_over K n to-q f) (f n)) (sum_over K n to-q f)) (le-leb n q (omega arith))
      ∙ (λ i. K.add (all-so-far n (omega arith) i) (f (e i)))

  over-before : (k : ℕ) → sum_over K (suc q + k) to-q f ≡ K.add (plus_terms K K.zero f 0 q) (f q)
  unfolding sum_over plus_terms
  over-before zero =
      let e : suc q + 0 ≡ suc q = omega arith in
      let d : 0 + q ≡ q = omega arith in
      ap (λ (n : ℕ). sum_over K n to-q f) e ∙ all-so-far (suc q) (omega arith) ∙ ap (λ (p : ℕ). K.add (plus_terms K K.zero f 0 q) (f p)) d
  over-before (suc k) =
      let e : suc q + suc k ≡ suc (suc q + k) = omega arith in
      ap (λ (n : ℕ). sum_over K n to-q f) e
      ∙ ap (λ (b : Bool). cond b (K.add (sum_over K (suc q + k) to-q f) (f (suc q + k))) (sum_over K (suc q + k) to-q f)) (lt-leb (suc q + k) q (omega arith))
      ∙ over-before k

-- runs whose terms agree
pub more-cong : (K : Kind) (f g : ℕ → K.Elem) (x z : K.Elem) (from n : ℕ) → x ≡ z → ((i : ℕ) → i < n → f (from + i) ≡ g (from + i)) → plus_terms K x f from n ≡ plus_terms K z g from n
unfolding plus_terms
more-cong K f g x z from zero d h = d
more-cong K f g x z from (suc n) d h = λ i. K.add (more-cong K f g x z from n d (λ p l. h p (omega arith)) i) (h n (omega arith) i)

-- the terms but the own one are g's
module _ (K : Kind) (f g : ℕ → K.Elem) (own : K.Elem) (m q : ℕ) (below : q < m) (at-q : own ≡ f q)
    (else : (p : ℕ) → (q ≡ p → ⊥) → g p ≡ f p) where
  sum-in-parts : (last : Bool)
      → cond last (plus_terms K (K.add K.zero own) g (suc q) (m - suc q)) (K.add (plus_terms K K.zero g 0 q) own) ≡ sum_over K m (λ p. cond last (leb q p) (leb p q)) f
  sum-in-parts true =
      let e : suc q + (m - suc q) ≡ m = omega arith in
      ap (λ (x : K.Elem). plus_terms K (K.add K.zero x) g (suc q) (m - suc q)) at-q
      ∙ more-cong K g f (K.add K.zero (f q)) (K.add K.zero (f q)) (suc q) (m - suc q) refl (λ i l. else (suc q + i) (λ d. omega arith))
      ∙ sym (over-behind K f q (m - suc q))
      ∙ ap (λ (n : ℕ). sum_over K n (λ p. leb q p) f) e
  sum-in-parts false =
      let e : suc q + (m - suc q) ≡ m = omega arith in
      (λ i. K.add (more-cong K g f K.zero K.zero 0 q refl (λ j l. else (0 + j) (λ d. omega arith)) i) (at-q i))
      ∙ sym (over-before K f q (m - suc q))
      ∙ ap (λ (n : ℕ). sum_over K n (λ p. leb p q) f) e

-- ---- the definition's sum, along a line

-- element p of a line goes into element q of it
abbrev pub goes_into : Side → UpLo → Trans → ℕ → ℕ → Bool
goes_into Left uplo t q p = in_op uplo t q p
goes_into Right uplo t q p = in_op uplo t p q

-- what it brings there, of value x, in this order of operands
abbrev pub weighs : (K : Kind) → Side → Diag → Trans → Matrix K → ℕ → ℕ → K.Elem → K.Elem
weighs K Left diag t a q p x = K.mul (triangular K diag t a q p) x
weighs K Right diag t a q p x = K.mul x (triangular K diag t a p q)

-- element q of line l of the product
abbrev pub line_dot : (K : Kind) → Side → UpLo → Trans → Diag → Matrix K → View → List K.Cell → ℕ → ℕ → K.Elem
line_dot K side uplo t diag a v s q l =
    sum_over K (order_of side v) (λ p. goes_into side uplo t q p) (λ p. weighs K side diag t a q p (unknown K side s v p l))

module _ (K : Kind) (t : Trans) (a : Matrix K) (q : ℕ) where
  own_is : (diag : Diag) → own_diag K diag (op K t a q q) ≡ triangular K diag t a q q
  own_is NonUnit = refl
  own_is Unit = sym (ap (λ (b : Bool). cond b K.one (op K t a q q)) (eq-eqb q q refl))

  row_is : (diag : Diag) (p : ℕ) → (q ≡ p → ⊥) → op K t a q p ≡ triangular K diag t a q p
  row_is NonUnit p d = refl
  row_is Unit p d = sym (ap (λ (b : Bool). cond b K.one (op K t a q p)) (ne_eqb q p d))

  col-is : (diag : Diag) (p : ℕ) → (q ≡ p → ⊥) → op K t a p q ≡ triangular K diag t a p q
  col-is NonUnit p d = refl
  col-is Unit p d = sym (ap (λ (b : Bool). cond b K.one (op K t a p q)) (ne_eqb p q (λ e. d (sym e))))

module _ (K : Kind) (C : Commutes K) (uplo : UpLo) (t : Trans) (diag : Diag) (va vb : View) (sa s : List K.Cell) (q l : ℕ) where
  abbrev a : Matrix K
  a = elem K sa va

  pub line-sum-is : (side : Side) → q < order_of side vb → line_sum K (system_of side uplo t diag va vb) sa s q l ≡ line_dot K side uplo t diag a vb s q l
  unfolding line_sum
  line-sum-is Left h =
      sum-in-parts K (λ p. weighs K Left diag t a q p (unknown K Left s vb p l)) _ _ vb.rows q h
      (λ i. K.mul ((ap (own_diag K diag) (coefficient-is K uplo t diag va vb sa Left q q) ∙ own_is K t a q diag) i) (lines-elem K s Left vb q l i))
      (λ p d i. K.mul ((coefficient-is K uplo t diag va vb sa Left q p ∙ row_is K t a q diag p d) i) (lines-elem K s Left vb p l i))
      (last_first Left uplo t)
  line-sum-is Right h =
      sum-in-parts K (λ p. weighs K Right diag t a q p (unknown K Right s vb p l)) _ _ vb.cols q h
      (C.commutes _ _ ∙ (λ i. K.mul (lines-elem K s Right vb q l i) ((ap (own_diag K diag) (coefficient-is K uplo t diag va vb sa Right q q) ∙ own_is K t a q diag) i)))
      (λ p d. C.commutes _ _ ∙ (λ i. K.mul (lines-elem K s Right vb p l i) ((coefficient-is K uplo t diag va vb sa Right q p ∙ col-is K t a q diag p d) i)))
      (last_first Right uplo t)
      ∙ mirrored (op_upper uplo t)
    where
      mirrored : (b : Bool) → sum_over K vb.cols (λ p. cond (not b) (leb q p) (leb p q)) (λ p. weighs K Right diag t a q p (unknown K Right s vb p l))
          ≡ sum_over K vb.cols (λ p. cond b (leb p q) (leb q p)) (λ p. weighs K Right diag t a q p (unknown K Right s vb p l))
      mirrored true = refl
      mirrored false = refl

-- ---- as the engine meets it: what is read, the own term, and the run behind or before it

module _ (K : Kind) (y : System) (a s : List K.Cell) (q l : ℕ) where
  pub line-behind : (m : ℕ) (r : K.Elem) → y.last ≡ true → m ≡ y.b.rows → r ≡ own_first K y a s q l (m - 1 - q) → r ≡ line_sum K y a s q l
  unfolding line_sum
  line-behind m r h counted e =
      let n : m - 1 - q ≡ y.b.rows - suc q = omega arith in
      e ∙ ap (own_first K y a s q l) n ∙ sym (ap (λ (b : Bool). cond b (own_first K y a s q l (y.b.rows - suc q)) (own_last K y a s q l K.zero 0 q)) h)

  pub line_before : (z : K.Elem) (n : ℕ) (r : K.Elem) → y.last ≡ false → z ≡ K.zero → n ≡ q → r ≡ own_last K y a s q l z 0 n → r ≡ line_sum K y a s q l
  unfolding line_sum
  line_before z n r h begun all e =
      e
      ∙ (λ i. own_last K y a s q l (begun i) 0 (all i))
      ∙ sym (ap (λ (b : Bool). cond b (own_first K y a s q l (y.b.rows - suc q)) (own_last K y a s q l K.zero 0 q)) h)

  -- each by parts
  pub own-first-is : (n : ℕ) (z o x r : K.Elem) → z ≡ K.zero → o ≡ own K y a s q l → x ≡ K.add z o → r ≡ plus_terms K x (line_term K y a s q l) (q + 1) n → r ≡ own_first K y a s q l n
  own-first-is n z o x r begun itself began e =
      let f : q + 1 ≡ suc q = omega arith in
      e ∙ (λ i. plus_terms K ((began ∙ (λ j. K.add (begun j) (itself j))) i) (line_term K y a s q l) (f i) n)

  pub own-last-is : (from n : ℕ) (x o sum r : K.Elem) → sum ≡ plus_terms K x (line_term K y a s q l) from n → o ≡ own K y a s q l → r ≡ K.add sum o → r ≡ own_last K y a s q l x from n
  own-last-is from n x o sum r summed itself e = e ∙ (λ i. K.add (summed i) (itself i))

module _ (K : Kind) (y : System) (a s : List K.Cell) (q l : ℕ) (c x o z : K.Elem) (weighed : c ≡ own_diag K y.diag (coefficient K y a q q))
    (read : x ≡ elem K s y.b q l) (brought : o ≡ K.mul c x) (begun : z ≡ K.zero) where
  own-term : o ≡ own K y a s q l
  own-term = brought ∙ (λ i. K.mul (weighed i) (read i))

  pub sum-behind : (m : ℕ) (first r : K.Elem) → y.last ≡ true → m ≡ y.b.rows → first ≡ K.add z o
      → r ≡ plus_terms K first (line_term K y a s q l) (q + 1) (m - 1 - q) → r ≡ line_sum K y a s q l
  sum-behind m first r h counted began e = line-behind K y a s q l m r h counted (own-first-is K y a s q l (m - 1 - q) z o first r begun own-term began e)

  pub sum-before : (sum r : K.Elem) → y.last ≡ false → sum ≡ plus_terms K z (line_term K y a s q l) 0 q → r ≡ K.add sum o → r ≡ line_sum K y a s q l
  sum-before sum r h summed e = line_before K y a s q l z q r h begun refl (own-last-is K y a s q l 0 q z o sum r summed own-term e)

-- of w lines, with w zeros to begin from
module _ (K : Kind) (y : System) (a s : List K.Cell) (q l : ℕ) (w : ℕ) (c z : K.Elem) (zs rs : List K.Elem) (weighed : c ≡ own_diag K y.diag (coefficient K y a q q))
    (all : Lanes K w zs (λ t. z)) (begun : z ≡ K.zero) where
  pub sums-behind : (m : ℕ) (xs : List K.Elem) → y.last ≡ true → m ≡ y.b.rows → Lanes K w xs (λ t. K.add (lane K zs t) (K.mul c (elem K s y.b q (l + t))))
      → Lanes K w rs (λ t. plus_terms K (lane K xs t) (line_term K y a s q (l + t)) (q + 1) (m - 1 - q)) → Lanes K w rs (λ t. line_sum K y a s q (l + t))
  sums-behind m xs h counted began e = record {
    count = e.count;
    sum = λ t g. sum-behind K y a s q (l + t) c _ _ (lane K zs t) weighed refl refl (all.sum t g ∙ begun) m (lane K xs t) (lane K rs t) h counted (began.sum t g) (e.sum t g);
  }

  pub sums-before : (xs : List K.Elem) → y.last ≡ false → Lanes K w xs (λ t. plus_terms K (lane K zs t) (line_term K y a s q (l + t)) 0 q)
      → Lanes K w rs (λ t. K.add (lane K xs t) (K.mul c (elem K s y.b q (l + t)))) → Lanes K w rs (λ t. line_sum K y a s q (l + t))
  sums-before xs h summed e = record {
    count = e.count;
    sum = λ t g. sum-before K y a s q (l + t) c _ _ (lane K zs t) weighed refl refl (all.sum t g ∙ begun) (lane K xs t) (lane K rs t) h (summed.sum t g) (e.sum t g);
  }
