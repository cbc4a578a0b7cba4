-- How a triangular routine reads A. In the equation of unknown q, unknown p of the same line of B (Left: a column, Right: a row) is
-- multiplied by one coefficient: an element of op(A), which is an element of A or its conjugate; ONE on a Unit diagonal.
use Prim.Native.Nat.{ℕ, ◌*◌, ◌≤◌, ◌<◌}
use mathlib.Core.Bool.{Bool, true, false, not, cond}
use mathlib.Core.Path.{◌≡◌, refl, sym, ap, ◌∙◌}
use native.Mathlib.Decide.{ℕ_discrete}
use native.Mathlib.Nat.{le_trans, mul-le-mul_right}
use native.Mathlib.Omega.{arith}
use lib.Dec.{leb, eqb}
use borrow.Author.Tests.{eq-eqb, ne_eqb}
use Rattle.number.specs.Kind.{Kind, Same, Holds, Finite}
use Rattle.number.specs.Laws.{Laws}
use Rattle.theorems.proofs.Words.{View, Trans, NoTrans, Transposed, ConjTrans, UpLo, Upper, Lower, Diag, NonUnit, Unit, Side, Left, Right}
use Rattle.view.specs.Checks.{order_of}
use Rattle.view.specs.Triangle.{in_triangle}
use Rattle.view.proofs.AnyLaws.{and_both, and_left, and_right, clash}
use Rattle.slabs.specs.Update.{Mask}
use Rattle.blas.specs.Matrix.{Matrix, op, sum_over}
use Rattle.blas.specs.Triangular.{op_upper, in_op, triangular, triangular_dot}
use Rattle.blas.specs.Substitution.{brings, last_first}
use Rattle.theorems.specs.Agreement.{triangle}
use Rattle.theorems.specs.TriangularAgreement.{named}
use Rattle.theorems.proofs.Respects.{Below, Fit, Respected, over-respects, Reveals, plain, conjugated, shows-by, same-shown}

-- ---- a coefficient and what it multiplies

abbrev pub coefficient : (K : Kind) → Side → Trans → Matrix K → Matrix K
coefficient K Left t a q p = op K t a q p
coefficient K Right t a q p = op K t a p q

-- in this order of operands
abbrev pub times : (K : Kind) → Side → K.Elem → K.Elem → K.Elem
times K Left c x = K.mul c x
times K Right c x = K.mul x c

pub brings-is : (K : Kind) (side : Side) (t : Trans) (a : Matrix K) (q p : ℕ) (x : K.Elem) →
    brings K side t a q p x ≡ times K side (coefficient K side t a q p) x
brings-is K Left t a q p x = refl
brings-is K Right t a q p x = refl

module _ (K : Kind) (L : Laws K) where
  pub times-cong : (side : Side) {c c' x x' : K.Elem} → Same K c c' → Same K x x' → Same K (times K side c x) (times K side c' x')
  times-cong Left h e = L.mul-cong h e
  times-cong Right h e = L.mul-cong e h

  pub times_zero : (side : Side) (c x : K.Elem) → Finite K c → Same K x K.zero → Same K (times K side c x) K.zero
  times_zero Left c x f e = L.same-trans (L.mul-cong (L.same_refl c) e) (L.mul-zero f)
  times_zero Right c x f e = L.same-trans (L.mul-cong e (L.same_refl c)) (L.zero-mul f)

  pub times-one : (side : Side) (c x : K.Elem) → Holds K c → Finite K c → Same K x K.one → Same K (times K side c x) c
  times-one Left c x v f e = L.same-trans (L.mul-cong (L.same_refl c) e) (L.mul-one v f)
  times-one Right c x v f e = L.same-trans (L.mul-cong e (L.same_refl c)) (L.one-mul v f)

-- ---- where it stands in A

-- by cases on both flags
by_flags : (P : Side → Trans → Type 0) → P Left NoTrans → P Left Transposed → P Left ConjTrans → P Right NoTrans → P Right Transposed
    → P Right ConjTrans → (side : Side) (t : Trans) → P side t
by_flags P a b c d e f Left NoTrans = a
by_flags P a b c d e f Left Transposed = b
by_flags P a b c d e f Left ConjTrans = c
by_flags P a b c d e f Right NoTrans = d
by_flags P a b c d e f Right Transposed = e
by_flags P a b c d e f Right ConjTrans = f

abbrev pub row_in : Side → Trans → ℕ → ℕ → ℕ
row_in Left NoTrans q p = q
row_in Left Transposed q p = p
row_in Left ConjTrans q p = p
row_in Right NoTrans q p = p
row_in Right Transposed q p = q
row_in Right ConjTrans q p = q

abbrev pub col_in : Side → Trans → ℕ → ℕ → ℕ
col_in side t q p = row_in side t p q

coefficient-shows : (side : Side) (t : Trans) (q p : ℕ) → Reveals (λ K. coefficient K side t) q p (row_in side t q p) (col_in side t q p)
coefficient-shows Left NoTrans q p = plain (λ K a. refl)
coefficient-shows Left Transposed q p = plain (λ K a. refl)
coefficient-shows Left ConjTrans q p = conjugated (λ K a. refl)
coefficient-shows Right NoTrans q p = plain (λ K a. refl)
coefficient-shows Right Transposed q p = plain (λ K a. refl)
coefficient-shows Right ConjTrans q p = conjugated (λ K a. refl)

-- what holds of two indices holds of the element's row and column
pub in_both : (P : ℕ → ℕ → Type 0) (side : Side) (t : Trans) (q p : ℕ) → P q p → P p q → P (row_in side t q p) (col_in side t q p)
in_both P side t q p h g = by_flags (λ side t. P (row_in side t q p) (col_in side t q p)) h g g g h h side t

-- where element (r, c) of A is a coefficient, the same rule tells
row_back : (side : Side) (t : Trans) (r c : ℕ) → row_in side t (row_in side t r c) (col_in side t r c) ≡ r
row_back side t r c = by_flags (λ side t. row_in side t (row_in side t r c) (col_in side t r c) ≡ r) refl refl refl refl refl refl side t

pub named_back : (names : Mask) (side : Side) (t : Trans) (r c : ℕ) → names r c ≡ true →
    names (row_in side t (row_in side t r c) (col_in side t r c)) (col_in side t (row_in side t r c) (col_in side t r c)) ≡ true
named_back names side t r c h = rw (row_back side t r c, row_back side t c r) h

pub element-back : (K : Kind) → Laws K → (side : Side) (t : Trans) (r c : ℕ) (a a' : Matrix K) →
    Same K (coefficient K side t a (row_in side t r c) (col_in side t r c)) (coefficient K side t a' (row_in side t r c) (col_in side t r c)) →
    Same K (a r c) (a' r c)
element-back K L side t r c a a' h =
    let q = row_in side t r c in
    let p = col_in side t r c in
    rw (row_back side t r c, row_back side t c r) at (same-shown K L (λ K. coefficient K side t) q p _ _ (coefficient-shows side t q p) a a' h)

-- what holds of the named elements holds of a coefficient that is one
pub coefficient-by : (K Z : Kind) (R : K.Elem → Z.Elem → Type 0) → ((x : K.Elem) (z : Z.Elem) → R x z → R (K.conj x) (Z.conj z))
    → (names : Mask) (n : ℕ) (side : Side) (t : Trans) (q p : ℕ) → q < n → p < n → names (row_in side t q p) (col_in side t q p) ≡ true
    → (a : Matrix K) (z : Matrix Z) → Below R names n n a z → R (coefficient K side t a q p) (coefficient Z side t z q p)
coefficient-by K Z R turn names n side t q p hq hp m a z h =
    shows-by {K = K} {Z = Z} R turn (λ K. coefficient K side t) q p _ _ (coefficient-shows side t q p) a z
    (h _ _ (in_both (λ i j. i < n) side t q p hq hp) (in_both (λ i j. j < n) side t q p hp hq) m)

module _ (K : Kind) (L : Laws K) (side : Side) (t : Trans) (q p : ℕ) (a : Matrix K) where
  pub coefficient-holds : ((i j : ℕ) → Holds K (a i j)) → Holds K (coefficient K side t a q p)
  coefficient-holds h =
      shows-by {K = K} {Z = K} (λ x y. Holds K x) (λ x y. L.conj-holds) (λ K. coefficient K side t) q p _ _ (coefficient-shows side t q p) a a (h _ _)

  pub coefficient-finite : (names : Mask) (n : ℕ) → q < n → p < n → names (row_in side t q p) (col_in side t q p) ≡ true → Fit K names n n a
      → Finite K (coefficient K side t a q p)
  coefficient-finite names n hq hp m h = coefficient-by K K (λ x y. Finite K x) (λ x y. L.conj-finite) names n side t q p hq hp m a a h.finite

-- ---- the coefficients that are read

-- unknown p is in the equation of unknown q, q itself included
abbrev pub takes : Side → UpLo → Trans → ℕ → ℕ → Bool
takes Left uplo t q p = in_op uplo t q p
takes Right uplo t q p = in_op uplo t p q

pub takes-triangle : (side : Side) (uplo : UpLo) (t : Trans) (q p : ℕ) →
    takes side uplo t q p ≡ in_triangle uplo (row_in side t q p) (col_in side t q p)
takes-triangle side Upper t q p =
    by_flags (λ side t. takes side Upper t q p ≡ in_triangle Upper (row_in side t q p) (col_in side t q p)) refl refl refl refl refl refl side t
takes-triangle side Lower t q p =
    by_flags (λ side t. takes side Lower t q p ≡ in_triangle Lower (row_in side t q p) (col_in side t q p)) refl refl refl refl refl refl side t

-- by the solving order
pub takes-order : (side : Side) (uplo : UpLo) (t : Trans) (q p : ℕ) → takes side uplo t q p ≡ cond (last_first side uplo t) (leb q p) (leb p q)
takes-order Left uplo t q p = refl
takes-order Right uplo t q p = turned (op_upper uplo t)
  where
    turned : (b : Bool) → cond b (leb p q) (leb q p) ≡ cond (not b) (leb q p) (leb p q)
    turned true = refl
    turned false = refl

-- named elements: under NonUnit all of the triangle, under Unit none of the diagonal
whole-named : (uplo : UpLo) (i j : ℕ) → in_triangle uplo i j ≡ true → named uplo NonUnit i j ≡ true
whole-named uplo i j h = h

named-unit : (uplo : UpLo) (i j : ℕ) → named uplo Unit i j ≡ true → (in_triangle uplo i j ≡ true) × (i ≡ j → ⊥)
named-unit uplo i j h =
    (and_left (triangle uplo i j) (not (eqb i j)) h, λ e. clash (and_right (triangle uplo i j) (not (eqb i j)) h) (ap not (eq-eqb i j e)))

named-triangle : (uplo : UpLo) (diag : Diag) (i j : ℕ) → named uplo diag i j ≡ true → in_triangle uplo i j ≡ true
named-triangle uplo NonUnit i j h = h
named-triangle uplo Unit i j h = (named-unit uplo i j h).0

pub named-takes : (side : Side) (uplo : UpLo) (t : Trans) (diag : Diag) (q p : ℕ) → named uplo diag (row_in side t q p) (col_in side t q p) ≡ true →
    takes side uplo t q p ≡ true
named-takes side uplo t diag q p h = takes-triangle side uplo t q p ∙ named-triangle uplo diag _ _ h

not_equal : (i j : ℕ) → (i ≡ j → ⊥) → not (eqb i j) ≡ true
not_equal i j h = ap not (ne_eqb i j h)

pub off-diagonal : (side : Side) (uplo : UpLo) (t : Trans) (q p : ℕ) → takes side uplo t q p ≡ true → (q ≡ p → ⊥) →
    named uplo Unit (row_in side t q p) (col_in side t q p) ≡ true
off-diagonal side uplo t q p h o =
    and_both (triangle uplo (row_in side t q p) (col_in side t q p)) (not (eqb (row_in side t q p) (col_in side t q p)))
    (sym (takes-triangle side uplo t q p) ∙ h)
    (not_equal (row_in side t q p) (col_in side t q p) (in_both (λ i j. i ≡ j → ⊥) side t q p o (λ e. o (sym e))))

pub named-off : (side : Side) (uplo : UpLo) (t : Trans) (q p : ℕ) → named uplo Unit (row_in side t q p) (col_in side t q p) ≡ true → q ≡ p → ⊥
named-off side uplo t q p h e = (named-unit uplo _ _ h).1 (in_both (λ i j. i ≡ j) side t q p e (sym e))

-- ---- an element of op(A)'s triangle, as unknown q takes it from unknown p

abbrev entry : (K : Kind) → Side → Diag → Trans → Matrix K → Matrix K
entry K Left diag t a q p = triangular K diag t a q p
entry K Right diag t a q p = triangular K diag t a p q

entry-unit : (K : Kind) (side : Side) (t : Trans) (a : Matrix K) (q p : ℕ) → q ≡ p → entry K side Unit t a q p ≡ K.one
entry-unit K Left t a q p e = ap (λ (b : Bool). cond b K.one (op K t a q p)) (eq-eqb q p e)
entry-unit K Right t a q p e = ap (λ (b : Bool). cond b K.one (op K t a p q)) (eq-eqb p q (sym e))

entry-off : (K : Kind) (side : Side) (t : Trans) (a : Matrix K) (q p : ℕ) → (q ≡ p → ⊥) → entry K side Unit t a q p ≡ coefficient K side t a q p
entry-off K Left t a q p e = ap (λ (b : Bool). cond b K.one (op K t a q p)) (ne_eqb q p e)
entry-off K Right t a q p e = ap (λ (b : Bool). cond b K.one (op K t a p q)) (ne_eqb p q (λ d. e (sym d)))

entry_whole : (K : Kind) (side : Side) (t : Trans) (a : Matrix K) (q p : ℕ) → entry K side NonUnit t a q p ≡ coefficient K side t a q p
entry_whole K Left t a q p = refl
entry_whole K Right t a q p = refl

-- it is ONE, or a coefficient that is named where it is read
data Read (side : Side) (uplo : UpLo) (t : Trans) (diag : Diag) (q p : ℕ) : Type 1 where
  one-there : ((K : Kind) (a : Matrix K) → entry K side diag t a q p ≡ K.one) → Read side uplo t diag q p
  coefficient-there : ((K : Kind) (a : Matrix K) → entry K side diag t a q p ≡ coefficient K side t a q p) →
      (takes side uplo t q p ≡ true → named uplo diag (row_in side t q p) (col_in side t q p) ≡ true) → Read side uplo t diag q p

reads : (side : Side) (uplo : UpLo) (t : Trans) (diag : Diag) (q p : ℕ) → Read side uplo t diag q p
reads side uplo t NonUnit q p = coefficient-there (λ K a. entry_whole K side t a q p) (λ h. whole-named uplo _ _ (sym (takes-triangle side uplo t q p) ∙ h))
reads side uplo t Unit q p = at (ℕ_discrete q p)
  where
    at : Dec (q ≡ p) → Read side uplo t Unit q p
    at (yes e) = one-there (λ K a. entry-unit K side t a q p e)
    at (no o) = coefficient-there (λ K a. entry-off K side t a q p o) (λ h. off-diagonal side uplo t q p h o)

module _ (side : Side) (uplo : UpLo) (t : Trans) (diag : Diag) where
  -- a named element is read
  pub entry_named : (q p : ℕ) → named uplo diag (row_in side t q p) (col_in side t q p) ≡ true → (K : Kind) (a : Matrix K) →
      entry K side diag t a q p ≡ coefficient K side t a q p
  entry_named q p h K a = at diag h
    where
      at : (diag : Diag) → named uplo diag (row_in side t q p) (col_in side t q p) ≡ true → entry K side diag t a q p ≡ coefficient K side t a q p
      at NonUnit h = entry_whole K side t a q p
      at Unit h = entry-off K side t a q p (named-off side uplo t q p h)

  -- what holds of ONE and of the named elements
  pub entry-by : (K Z : Kind) (R : K.Elem → Z.Elem → Type 0) → ((x : K.Elem) (z : Z.Elem) → R x z → R (K.conj x) (Z.conj z))
      → R K.one Z.one
      → (n q p : ℕ) → q < n → p < n → takes side uplo t q p ≡ true → (a : Matrix K) (z : Matrix Z) → Below R (named uplo diag) n n a z
      → R (entry K side diag t a q p) (entry Z side diag t z q p)
  entry-by K Z R turn one n q p hq hp m a z h = at (reads side uplo t diag q p)
    where
      at : Read side uplo t diag q p → R (entry K side diag t a q p) (entry Z side diag t z q p)
      at (one-there e) = rw (e K a, e Z z) one
      at (coefficient-there e l) = rw (e K a, e Z z) (coefficient-by K Z R turn (named uplo diag) n side t q p hq hp (l m) a z h)

  -- unknown q of the product of op(A) and the line x, n long
  abbrev pub product_at : (K : Kind) → ℕ → Matrix K → (ℕ → K.Elem) → ℕ → K.Elem
  product_at K n a x q = sum_over K n (λ p. takes side uplo t q p) (λ p. times K side (entry K side diag t a q p) (x p))

  pub product-respects : {K Z : Kind} {bound : ℕ} {R : ℕ → K.Elem → Z.Elem → Type 0} → Respected K Z bound R → (m n : ℕ) → R m K.one Z.one
      → (a : Matrix K) (za : Matrix Z) (x : ℕ → K.Elem) (zx : ℕ → Z.Elem) (q : ℕ) → q < n → Below (R m) (named uplo diag) n n a za
      → ((p : ℕ) → p < n → R m (x p) (zx p)) → n * (m * m) ≤ bound → R (n * (m * m)) (product_at K n a x q) (product_at Z n za zx q)
  product-respects {K} {Z} {bound} {R} S m n one a za x zx q hq h hx fits =
      over-respects S n (m * m) (λ p. takes side uplo t q p) _ _
      (λ p hp e.
      at side _ _ _ _ (entry-by K Z (R m) (λ x z. S.conj) one n q p hq hp e a za h) (hx p hp)
      (le_trans (omega (arith, mul-le-mul_right (m * m) hp)) fits))
      fits
    where
      at : (side : Side) (c x : K.Elem) (zc zx : Z.Elem) → R m c zc → R m x zx → m * m ≤ bound → R (m * m) (times K side c x) (times Z side zc zx)
      at Left c x zc zx p q h = S.mul p q h
      at Right c x zc zx p q h = S.mul q p h

-- ---- the definition's product is the one above

-- the unknown that the target's element (i, j) is, and the other factor's element in its p-th term
abbrev pub unknown_in : Side → ℕ → ℕ → ℕ
unknown_in Left i j = i
unknown_in Right i j = j

pub unknown-lt : (side : Side) (v : View) (i j : ℕ) → i < v.rows → j < v.cols → unknown_in side i j < order_of side v
unknown-lt Left v i j p q = p
unknown-lt Right v i j p q = q

abbrev pub beside : (K : Kind) → Side → Matrix K → ℕ → ℕ → ℕ → K.Elem
beside K Left r i j p = r p j
beside K Right r i j p = r i p

pub dot-is : (K : Kind) (side : Side) (uplo : UpLo) (t : Trans) (diag : Diag) (n : ℕ) (a b : Matrix K) (i j : ℕ) →
    triangular_dot K side uplo t diag n a b i j ≡ product_at side uplo t diag K n a (beside K side b i j) (unknown_in side i j)
dot-is K Left uplo t diag n a b i j = refl
dot-is K Right uplo t diag n a b i j = refl
