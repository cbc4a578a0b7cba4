-- What a routine can see of a matrix, by its calls: two calls that differ in A alone end alike where A agrees, and for each named element there is
-- a call whose outcome tells it. Here stand the theorem for any routine, and the right-hand sides and targets of the calls that tell.
use Prim.Native.Nat.{ℕ, zero, suc, ◌+◌, ◌*◌, ◌^◌, ◌≤◌, ◌<◌}
use mathlib.Core.Bool.{Bool, true, false, cond}
use mathlib.Core.List.{List, ◌∷◌}
use mathlib.Core.Logic.{◌⊎◌, inl, inr}
use mathlib.Core.Path.{◌≡◌, refl, sym, ap, subst, ◌∙◌}
use native.Mathlib.Decide.{ℕ_discrete}
use native.Mathlib.Nat.{mul-zero, mul-one}
use native.Mathlib.Omega.{arith}
use lib.Dec.{leb, eqb, lit≤}
use lib.IntN.{pos}
use lib.ListN.{length}
use borrow.Author.Tests.{eq-eqb}
use Rattle.number.specs.Kind.{Kind, Same, Holds, Finite}
use Rattle.number.specs.Laws.{Laws, Held, SameSlab}
use Rattle.theorems.proofs.Words.{View, Answer, Done, TooLarge, OutOfBounds, ShapeMismatch, Overlap, Singular, Side, Left, Right}
use Rattle.view.specs.Place.{place, index}
use Rattle.view.specs.Refusals.{limit, too_large, out_of_bounds, overlaps, is_vector, vec_length}
use Rattle.view.specs.Steps.{Accepted}
use Rattle.view.specs.Judge.{Arg, arg, judge, answer_number}
use Rattle.view.specs.Checks.{order_of, shaped, vector_of}
use Rattle.view.specs.Vector.{vec_coord, column_of}
use Rattle.view.proofs.AnyLaws.{and_both, or_right}
use Rattle.view.proofs.JudgeLaws.{Each, small, judge-passed, passed-judge}
use Rattle.view.proofs.OverlapLaws.{overlaps-is, no-meeting}
use Rattle.view.proofs.PlaceLaws.{inside→fits}
use Rattle.view.proofs.VectorLaws.{column-index, coord-sum, column-accepted, column-no-overlap}
use Rattle.slabs.specs.Elem.{Lent}
use Rattle.slabs.specs.Update.{Mask, Change, everywhere, update}
use Rattle.slabs.proofs.UpdateLaws.{update-shown}
use Rattle.blas.specs.Matrix.{Matrix, matrix, sum, sum_over}
use Rattle.blas.specs.Outcome.{Outcome, outcome}
use Rattle.blas.specs.Substitution.{attempt, unknown_at, unknown}
use Rattle.blas.specs.Solves.{lines_of}
use Rattle.blas.proofs.Elements.{fits-inside, apart_distinct}
use Rattle.theorems.specs.Agreement.{SameOutcome, SameShape, Named, Coefficient, Sees, Words}
use Rattle.theorems.proofs.Respects.{Below, Fit}
use Rattle.theorems.proofs.Triangles.{times, times_zero, times-one}

-- ---- a routine

-- the views of a call besides A's, the shape rule, the target and its slab as lent
pub record Routine (K : Kind) (Call : Type 0) : Type 0 where
  pub others : Call → List Arg
  pub shapes : View → Call → Bool
  pub target : Call → View
  pub entry : Call → List K.Cell

-- what is done when a call is not refused, by A's view and A
abbrev pub Work : Kind → Type 0 → Type 0
Work K Call = View → Matrix K → Call → Outcome K

-- the outcome of work that is done whenever the call is not refused
abbrev pub worked : (K : Kind) → List K.Cell → Outcome K
worked K work = record { answer = answer_number Done; slab = work }

module _ {K : Kind} {Call : Type 0} (f : Routine K Call) where
  abbrev checked : Lent K → Call → Answer
  checked a o = judge (arg a.view (K.count a.slab) ∷ f.others o) (f.shapes a.view o) (f.target o)

  abbrev pub attempted : Work K Call → Lent K → Call → Outcome K
  attempted work a o = attempt K (checked a o) (work a.view (matrix K a) o) (f.entry o)

  abbrev pub updated : (View → Matrix K → Call → List K.Cell) → Lent K → Call → Outcome K
  updated slab a o = outcome K (checked a o) (slab a.view (matrix K a) o) (f.entry o)

  -- a call that is not refused beside a matrix seen through v: its outcome tells the element (r, c)
  pub record Shot (work : Work K Call) (names : Mask) (v : View) (a : Matrix K) (r c : ℕ) : Type 0 where
    pub call : Call
    pub each : Each (f.others call)
    pub shape : f.shapes v call ≡ true
    pub apart : overlaps (f.target call) ≡ false
    pub tells : (v' : View) (a' : Matrix K) → SameShape v v' → Fit K names v'.rows v'.cols a' → SameOutcome K (work v a call) (work v' a' call)
        → Same K (a r c) (a' r c)

  -- what the theorem asks of a routine: its calls respect the named elements, and tell them
  pub record Plain (work : Work K Call) (Form : View → Type 0) (names : Mask) : Type 0 where
    pub shapes-same : (v v' : View) (o : Call) → SameShape v v' → f.shapes v o ≡ f.shapes v' o
    pub work-same : (v v' : View) (a a' : Matrix K) (o : Call) → SameShape v v' → f.shapes v o ≡ true → Below (Same K) names v.rows v.cols a a'
        → SameOutcome K (work v a o) (work v' a' o)
    pub shot : (v : View) (a : Matrix K) → Form v → v.rows ≤ limit → v.cols ≤ limit → Fit K names v.rows v.cols a → (r c : ℕ)
        → Named names v r c
        → Shot work names v a r c

-- ---- the same answer

-- a call is judged alike with either of two first views that draw neither refusal 1 nor 2
judge-same : (v v' : View) (n n' : ℕ) (rest : List Arg) (shapes shapes' : Bool) (target : View) → too_large v ≡ false → too_large v' ≡ false →
    out_of_bounds v n ≡ false → out_of_bounds v' n' ≡ false → shapes ≡ shapes' →
    judge (arg v n ∷ rest) shapes target ≡ judge (arg v' n' ∷ rest) shapes' target
unfolding judge
judge-same v v' n n' rest shapes shapes' target l l' o o' e = rw (l, l', o, o', e)

module _ (K : Kind) (entry : List K.Cell) where
  -- refused alike, or the work with the same outcome
  attempt-same : (work work' : Outcome K) (check : Answer) → SameSlab K entry entry → (check ≡ Done → SameOutcome K work work')
      → SameOutcome K (attempt K check work entry) (attempt K check work' entry)
  attempt-same work work' Done r h = h refl
  attempt-same work work' TooLarge r h = record { answer = refl; slab = r }
  attempt-same work work' OutOfBounds r h = record { answer = refl; slab = r }
  attempt-same work work' ShapeMismatch r h = record { answer = refl; slab = r }
  attempt-same work work' Overlap r h = record { answer = refl; slab = r }
  attempt-same work work' Singular r h = record { answer = refl; slab = r }

  outcome-attempt : (work : List K.Cell) (check : Answer) → outcome K check work entry ≡ attempt K check (worked K work) entry
  outcome-attempt work Done = refl
  outcome-attempt work TooLarge = refl
  outcome-attempt work OutOfBounds = refl
  outcome-attempt work ShapeMismatch = refl
  outcome-attempt work Overlap = refl
  outcome-attempt work Singular = refl

-- ---- the theorem

module _ {K : Kind} (L : Laws K) {Call : Type 0} (f : Routine K Call) (work : Work K Call) (Form : View → Type 0) (names : Mask) (P : Plain f work Form names) where
  fit_of : (a : Lent K) → Coefficient K Form names a → Fit K names a.view.rows a.view.cols (matrix K a)
  fit_of a h = record {
    holds = λ i j. L.slab.at-holds a.slab _ h.numbers;
    finite = λ i j p q m. h.finite i j (record { row = p; col = q; named = m });
  }

  -- the call that tells is not refused
  told : (a : Lent K) → Coefficient K Form names a → (o : Call) → Each (f.others o) → f.shapes a.view o ≡ true → overlaps (f.target o) ≡ false
      → checked f a o ≡ Done
  told a h o each shape apart =
      let s = small a.view h.accepted.not-too-large in
      passed-judge _ _ _ (record {
        each = (record { rows-le = s.0; cols-le = s.1; fits = h.accepted.not-out-of-bounds }, each);
        shape = shape;
        distinct = apart;
      })

  pub attempts-see : Sees K Call (attempted f work) Form names
  attempts-see a a' w ca ca' = (
    λ h. record {
      same = λ r c n.
          let s = small a.view ca.accepted.not-too-large in
          let t = P.shot a.view (matrix K a) ca.accepted.form s.0 s.1 (fit_of a ca) r c n in
          let shape' = sym (P.shapes-same a.view a'.view t.call w) ∙ t.shape in
          t.tells a'.view (matrix K a') w (fit_of a' ca')
          (rw (told a ca t.call t.each t.shape t.apart, told a' ca' t.call t.each shape' t.apart) at (h.outcome t.call));
    },
    λ g. record {
      outcome = λ o.
          subst (λ (c : Answer). SameOutcome K (attempted f work a o) (attempt K c (work a'.view (matrix K a') o) (f.entry o)))
          (judge-same a.view a'.view _ _ (f.others o) _ _ (f.target o) ca.accepted.not-too-large ca'.accepted.not-too-large
          ca.accepted.not-out-of-bounds ca'.accepted.not-out-of-bounds (P.shapes-same a.view a'.view o w))
          (attempt-same K (f.entry o) _ _ (checked f a o) (L.slab.slab-refl (f.entry o)) (λ d.
          P.work-same a.view a'.view (matrix K a) (matrix K a') o w (judge-passed _ _ _ d).shape
          (λ i j p q m. g.same i j (record { row = p; col = q; named = m }))));
    },
  )

pub updates-see : {K : Kind} (L : Laws K) {Call : Type 0} (f : Routine K Call) (slab : View → Matrix K → Call → List K.Cell) (Form : View → Type 0) (names : Mask)
    → Plain f (λ v a o. worked K (slab v a o)) Form names → Sees K Call (updated f slab) Form names
updates-see {K} L {Call} f slab Form names P =
    subst (λ (run : Lent K → Call → Outcome K). Sees K Call run Form names)
    (λ i a o. sym (outcome-attempt K (f.entry o) (slab a.view (matrix K a) o) (checked f a o)) i)
    (attempts-see L f (λ v a o. worked K (slab v a o)) Form names P)

-- ---- a unit vector picks one term of a sum of products

-- e is ONE at j and ZERO elsewhere, below n
pub record Picks (K : Kind) (n j : ℕ) (e : ℕ → K.Elem) : Type 0 where
  pub here : Same K (e j) K.one
  pub other : (p : ℕ) → p < n → (p ≡ j → ⊥) → Same K (e p) K.zero

module _ (K : Kind) (L : Laws K) where
  over_zero : (n : ℕ) (admits : ℕ → Bool) (f : ℕ → K.Elem) → ((p : ℕ) → p < n → admits p ≡ true → Same K (f p) K.zero)
      → Same K (sum_over K n admits f) K.zero
  unfolding sum_over
  over_zero zero admits f h = L.same_refl K.zero
  over_zero (suc n) admits f h = at (admits n) (h n (omega arith)) (over_zero n admits f (λ p l. h p (omega arith)))
    where
      at : (b : Bool) → (b ≡ true → Same K (f n) K.zero) → Same K (sum_over K n admits f) K.zero
          → Same K (cond b (K.add (sum_over K n admits f) (f n)) (sum_over K n admits f)) K.zero
      at true e r = L.same-trans (L.add_cong r (e refl)) (L.add-zero L.zero-holds)
      at false e r = r

  -- one admitted term is x, and every other is zero
  over-one : (n j : ℕ) (admits : ℕ → Bool) (f : ℕ → K.Elem) (x : K.Elem) → j < n → admits j ≡ true → Holds K x → Same K (f j) x →
      ((p : ℕ) → p < n → admits p ≡ true → (p ≡ j → ⊥) → Same K (f p) K.zero) → Same K (sum_over K n admits f) x
  unfolding sum_over
  over-one zero j admits f x l m v e z = absurd (none j l)
    where
      none : (j : ℕ) → j < zero → ⊥
      none j h = omega arith
  over-one (suc n) j admits f x l m v e z = at (ℕ_discrete n j) (λ q. over-one n j admits f x q m v e (λ p r. z p (omega arith)))
    where
      skip : (n ≡ j → ⊥) → (b : Bool) → admits n ≡ b → Same K (sum_over K n admits f) x
          → Same K (cond b (K.add (sum_over K n admits f) (f n)) (sum_over K n admits f)) x
      skip q true a h = L.same-trans (L.add_cong h (z n (omega arith) a q)) (L.add-zero v)
      skip q false a h = h

      at : Dec (n ≡ j) → (j < n → Same K (sum_over K n admits f) x) → Same K (sum_over K (suc n) admits f) x
      at (yes q) r =
          rw (ap admits q ∙ m)
          (L.same-trans
          (L.add_cong (over_zero n admits f (λ p l a. z p (omega arith) a (omega arith))) (subst (λ (k : ℕ). Same K (f k) x) (sym q) e))
          (L.zero-add v))
      at (no q) r = skip q (admits n) refl (r (omega arith))

  -- A's coefficients c on a side of the unit vector
  pub over-picks : (side : Side) (n j : ℕ) (admits : ℕ → Bool) (c e : ℕ → K.Elem) → j < n → admits j ≡ true → Picks K n j e
      → ((p : ℕ) → p < n → admits p ≡ true → Finite K (c p)) → Holds K (c j) → Same K (sum_over K n admits (λ p. times K side (c p) (e p))) (c j)
  over-picks side n j admits c e l m u f v =
      over-one n j admits _ (c j) l m v (times-one K L side (c j) (e j) v (f j l m) u.here) (λ p q a o. times_zero K L side (c p) (e p) (f p q a) (u.other p q o))

  sum-sum_over : (n : ℕ) (f : ℕ → K.Elem) → sum K n f ≡ sum_over K n (λ p. true) f
  unfolding sum sum_over
  sum-sum_over zero f = refl
  sum-sum_over (suc n) f = ap (λ (x : K.Elem). K.add x (f n)) (sum-sum_over n f)

  pub sum-picks : (side : Side) (n j : ℕ) (c e : ℕ → K.Elem) → j < n → Picks K n j e → ((p : ℕ) → p < n → Finite K (c p)) → Holds K (c j)
      → Same K (sum K n (λ p. times K side (c p) (e p))) (c j)
  sum-picks side n j c e l u f v = rw (sum-sum_over n (λ p. times K side (c p) (e p))) (over-picks side n j (λ p. true) c e l refl u (λ p q a. f p q) v)

-- ---- a line: one row or one column, element after element from the slab's start

abbrev pub line : ℕ → ℕ → View
line m n = record { start = 0; rows = m; cols = n; rs = pos 1; cs = pos 1 }

-- a column where A is on the left, a row where it is on the right
abbrev pub strip : Side → ℕ → View
strip Left n = line n 1
strip Right n = line 1 n

pub line-index : (m n r c : ℕ) → index (line m n) r c ≡ r + c
unfolding index place
line-index m n r c = omega (arith, mul-one r, mul-one c)

-- a view of n elements that a call may name, with a slab of n elements, also as its target
pub record Fair (v : View) (n : ℕ) : Type 0 where
  pub small : n ≤ limit
  pub words : Words v
  pub accepted : Accepted v n
  pub apart : overlaps v ≡ false

line-fair : (m n k : ℕ) → m ≤ limit → n ≤ limit → k ≤ limit → m + n ≤ k + 1 → (m ≤ 1) ⊎ (n ≤ 1) → Fair (line m n) k
line-fair m n k p q s h thin = record {
  small = s;
  words = record { start = omega arith; rows = omega arith; cols = omega arith; rs = omega arith; cs = omega arith };
  accepted = record {
    rows-le = p;
    cols-le = q;
    fits = inside→fits (line m n) k
        (λ r c l o. record { low = omega (arith, mul-zero r, mul-zero c); high = omega (arith, mul-zero r, mul-zero c, mul-one r, mul-one c) });
  };
  apart = overlaps-is (line m n) ∙ no-meeting m 1 n 1 (λ w. at thin w.k w.d w.k_lt w.d-lt w.some w.same);
}
  where
    at : (m ≤ 1) ⊎ (n ≤ 1) → (k d : ℕ) → k < m → d < n → 0 < k + d → k * 1 ≡ d * 1 → ⊥
    at (inl h) k d p q s e = omega (arith, mul-one k, mul-one d)
    at (inr h) k d p q s e = omega (arith, mul-one k, mul-one d)

pub strip-fair : (side : Side) (n : ℕ) → n ≤ limit → Fair (strip side n) n
strip-fair Left n h = line-fair n 1 n h (lit≤ tt) h (omega arith) (inr (lit≤ tt))
strip-fair Right n h = line-fair 1 n n (lit≤ tt) h h (omega arith) (inl (lit≤ tt))

-- the column as a vector
line-vector : (n : ℕ) → is_vector (line n 1) ≡ true
unfolding is_vector
line-vector n = or_right (leb n 1) refl

pub vector_line : (n : ℕ) → vector_of (line n 1) n ≡ true
unfolding vector_of
vector_line n = and_both (is_vector (line n 1)) (eqb (vec_length (line n 1)) n) (line-vector n) (eq-eqb (n * 1) n (mul-one n))

pub line-column-index : (n k : ℕ) → index (column_of (line n 1)) k 0 ≡ k
line-column-index n k =
    column-index (line n 1) k ∙ line-index n 1 (vec_coord (line n 1) k).row (vec_coord (line n 1) k).col ∙ coord-sum (line n 1) k

pub shaped-as : (v : View) (m n : ℕ) → v.rows ≡ m → v.cols ≡ n → shaped v m n ≡ true
shaped-as v m n p q = and_both (eqb v.rows m) (eqb v.cols n) (eq-eqb v.rows m p) (eq-eqb v.cols n q)

-- ---- a target: v shows n unknowns in one line, the first n elements of a slab

pub record Strip (side : Side) (v : View) (n : ℕ) : Type 0 where
  pub order : order_of side v ≡ n
  pub one_line : lines_of side v ≡ 1
  pub places : (p : ℕ) → p < n → unknown_at side v p 0 ≡ p
  pub accepted : Accepted v n
  pub apart : overlaps v ≡ false

pub strip-strip : (side : Side) (n : ℕ) → n ≤ limit → Strip side (strip side n) n
strip-strip Left n h =
    let f = strip-fair Left n h in
    record { order = refl; one_line = refl; places = λ p l. let e = line-index n 1 p 0 in omega arith; accepted = f.accepted; apart = f.apart }
strip-strip Right n h =
    let f = strip-fair Right n h in
    record { order = refl; one_line = refl; places = λ p l. let e = line-index 1 n 0 p in omega arith; accepted = f.accepted; apart = f.apart }

pub vector-strip : (n : ℕ) → n ≤ limit → Strip Left (column_of (line n 1)) n
vector-strip n h = record {
  order = mul-one n;
  one_line = refl;
  places = λ p l. line-column-index n p;
  accepted = column-accepted (line n 1) n (line-vector n) (strip-fair Left n h).accepted;
  apart = column-no-overlap (line n 1) (line-vector n) (strip-fair Left n h).apart;
}

-- the row and the column of unknown q of the first line
abbrev pub row_at : Side → ℕ → ℕ
row_at Left q = q
row_at Right q = 0

abbrev pub col_at : Side → ℕ → ℕ
col_at Left q = 0
col_at Right q = q

-- an unknown after an update of the whole line
pub strip-shown : (K : Kind) → Laws K → (side : Side) (v : View) (n : ℕ) → Strip side v n → (s : List K.Cell) → K.count s ≡ n
    → (u : Change K) (q : ℕ) → q < n
    → unknown K side (update K v everywhere u s) v q 0 ≡ u (row_at side q) (col_at side q) (unknown K side s v q 0)
strip-shown K L side v n w s e u q h = at side (subst (λ (m : ℕ). q < m) (sym w.order) h) (subst (λ (m : ℕ). 0 < m) (sym w.one_line) (lit≤ tt))
  where
    shown : (i j : ℕ) → i < v.rows → j < v.cols → K.at (update K v everywhere u s) (index v i j) ≡ u i j (K.at s (index v i j))
    shown =
        let fits = (subst (Accepted v) (sym e) w.accepted).fits in
        update-shown K L.slab v everywhere u s (fits-inside v _ fits) (apart_distinct v _ fits w.apart)

    at : (side : Side) → q < order_of side v → 0 < lines_of side v
        → unknown K side (update K v everywhere u s) v q 0 ≡ u (row_at side q) (col_at side q) (unknown K side s v q 0)
    at Left p l = shown q 0 p l
    at Right p l = shown 0 q l p

-- the same outcome has the same unknowns
pub unknown-same : {K : Kind} (L : Laws K) {s s' : List K.Cell} → SameOutcome K (worked K s) (worked K s') → (side : Side) (v : View) (q : ℕ)
    → Same K (unknown K side s v q 0) (unknown K side s' v q 0)
unknown-same L o side v q = L.slab.at_same (unknown_at side v q 0) o.slab

-- ---- slabs

-- slabs of zeros, of every size
pub record Zeros (K : Kind) : Type 0 where
  pub slab : ℕ → List K.Cell
  pub count : (n : ℕ) → K.count (slab n) ≡ n
  pub zero : (n k : ℕ) → k < n → K.at (slab n) k ≡ K.zero
  pub held : (n : ℕ) → Held K (slab n)
  pub size : (n : ℕ) → n ≤ limit → K.bytes * length (slab n) < 2 ^ 63

-- the slab's first n elements are the j-th unit vector, by whichever function an element's place is worked out
abbrev pub UnitIn : (K : Kind) → List K.Cell → ℕ → ℕ → Type 0
UnitIn K e n j = (place : ℕ → ℕ) → ((p : ℕ) → p < n → place p ≡ p) → Picks K n j (λ p. K.at e (place p))

module _ (K : Kind) (L : Laws K) (Z : Zeros K) (n j : ℕ) where
  -- the j-th unit vector
  abbrev pub unit_slab : List K.Cell
  unit_slab = K.put (Z.slab n) j K.one

  pub unit-count : K.count unit_slab ≡ n
  unit-count = L.slab.count-put (Z.slab n) j K.one ∙ Z.count n

  pub unit-held : Held K unit_slab
  unit-held = L.slab.put_holds (Z.slab n) j K.one (Z.held n) L.one_holds

  pub unit_size : n ≤ limit → K.bytes * length unit_slab < 2 ^ 63
  unit_size h = rw (L.slab.length-put (Z.slab n) j K.one) (Z.size n h)

  pub unit-picks : j < n → UnitIn K unit_slab n j
  unit-picks h place e = record {
    here = rw (e j h, L.slab.at-put (Z.slab n) j K.one (rw (Z.count n) h)) (L.same_refl K.one);
    other = λ p q o. rw (e p q, L.slab.at-put-other (Z.slab n) j p K.one o, Z.zero n p q) (L.same_refl K.zero);
  }
