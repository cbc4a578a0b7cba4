-- What sums, products and the ways of reading a matrix respect, proved once for any relation between the numbers of two kinds: that they are the same
-- number (here), or one the whole number that the other is (ExactBasis); and for what holds of a number alone: that it is the format's, or finite.
use Prim.Native.Nat.{ℕ, zero, suc, ◌+◌, ◌*◌, ◌≤◌, ◌<◌}
use mathlib.Core.Bool.{Bool, true, false, cond}
use mathlib.Core.Path.{◌≡◌, refl, ap}
use native.Mathlib.Nat.{le_trans, mul-le-mul_right}
use native.Mathlib.Omega.{arith}
use borrow.Author.Tests.{leb-false, le-leb}
use Rattle.number.specs.Kind.{Kind, Same, Holds, Finite}
use Rattle.number.specs.Laws.{Laws}
use Rattle.theorems.proofs.Words.{View, Trans, NoTrans, Transposed, ConjTrans, UpLo, Upper, Lower}
use Rattle.view.specs.Refusals.{limit}
use Rattle.view.specs.Checks.{op_rows, op_cols}
use Rattle.view.specs.Triangle.{in_triangle}
use Rattle.slabs.specs.Update.{Mask}
use Rattle.blas.specs.Matrix.{Matrix, op, symmetric, hermitian, dot, sum, sum_over, pair_sum}
use Rattle.theorems.specs.Agreement.{Named, SameShape, whole_matrix, triangle}

-- a relation between the numbers of two kinds at the named elements of m rows and n columns
abbrev pub Below : {A B : Type 0} → (A → B → Type 0) → Mask → ℕ → ℕ → (ℕ → ℕ → A) → (ℕ → ℕ → B) → Type 0
Below R names m n a z = (i j : ℕ) → i < m → j < n → names i j ≡ true → R (a i j) (z i j)

-- the format's numbers, the named elements finite
pub record Fit (K : Kind) (names : Mask) (m n : ℕ) (a : Matrix K) : Type 0 where
  pub holds : (i j : ℕ) → Holds K (a i j)
  pub finite : Below (λ (x y : K.Elem). Finite K x) names m n a a

-- ---- a relation between the numbers of two kinds, by size, up to a bound

pub record Respected (K Z : Kind) (bound : ℕ) (R : ℕ → K.Elem → Z.Elem → Type 0) : Type 0 where
  pub wider : {m n : ℕ} {x : K.Elem} {z : Z.Elem} → m ≤ n → R m x z → R n x z
  pub zeros : R 0 K.zero Z.zero
  pub add : {m n : ℕ} {x y : K.Elem} {a b : Z.Elem} → R m x a → R n y b → m + n ≤ bound → R (m + n) (K.add x y) (Z.add a b)
  pub mul : {m n : ℕ} {x y : K.Elem} {a b : Z.Elem} → R m x a → R n y b → m * n ≤ bound → R (m * n) (K.mul x y) (Z.mul a b)
  pub conj : {m : ℕ} {x : K.Elem} {z : Z.Elem} → R m x z → R m (K.conj x) (Z.conj z)

-- equality as numbers, whatever the size
pub same-respected : (K : Kind) → Laws K → Respected K K 0 (λ m x y. Same K x y)
same-respected K L = record {
  wider = λ h p. p;
  zeros = L.same_refl K.zero;
  add = λ p q h. L.add_cong p q;
  mul = λ p q h. L.mul-cong p q;
  conj = λ p. L.conj-cong p;
}

module _ {K Z : Kind} {bound : ℕ} {R : ℕ → K.Elem → Z.Elem → Type 0} (S : Respected K Z bound R) where
  pub sum-respects : (n m : ℕ) (f : ℕ → K.Elem) (g : ℕ → Z.Elem) → ((p : ℕ) → p < n → R m (f p) (g p)) → n * m ≤ bound
      → R (n * m) (sum K n f) (sum Z n g)
  unfolding sum
  sum-respects zero m f g t h = S.wider (omega arith) S.zeros
  sum-respects (suc n) m f g t h =
      S.wider (omega arith) (S.add (sum-respects n m f g (λ p l. t p (omega arith)) (omega arith)) (t n (omega arith)) (omega arith))

  -- over admitted indices alone
  pub over-respects : (n m : ℕ) (admits : ℕ → Bool) (f : ℕ → K.Elem) (g : ℕ → Z.Elem) → ((p : ℕ) → p < n → admits p ≡ true → R m (f p) (g p))
      → n * m ≤ bound → R (n * m) (sum_over K n admits f) (sum_over Z n admits g)
  unfolding sum_over
  over-respects zero m admits f g t h = S.wider (omega arith) S.zeros
  over-respects (suc n) m admits f g t h = go (admits n) (t n (omega arith)) (over-respects n m admits f g (λ p l. t p (omega arith)) (omega arith))
    where
      go : (b : Bool) → (b ≡ true → R m (f n) (g n)) → R (n * m) (sum_over K n admits f) (sum_over Z n admits g)
          → R (suc n * m) (cond b (K.add (sum_over K n admits f) (f n)) (sum_over K n admits f)) (cond b (Z.add (sum_over Z n admits g) (g n)) (sum_over Z n admits g))
      go true e s = S.wider (omega arith) (S.add s (e refl) (omega arith))
      go false e s = S.wider (omega arith) s

  -- two terms an index
  pub pair-respects : (n m : ℕ) (f f' : ℕ → K.Elem) (g g' : ℕ → Z.Elem) → ((p : ℕ) → p < n → R m (f p) (g p) × R m (f' p) (g' p))
      → 2 * n * m ≤ bound → R (2 * n * m) (pair_sum K n f f') (pair_sum Z n g g')
  unfolding pair_sum
  pair-respects zero m f f' g g' t h = S.wider (omega arith) S.zeros
  pair-respects (suc n) m f f' g g' t h =
      let both = t n (omega arith) in
      S.wider (omega arith)
      (S.add (S.add (pair-respects n m f f' g g' (λ p l. t p (omega arith)) (omega arith)) both.0 (omega arith)) both.1 (omega arith))

  -- n products
  pub dot-respects : (n m : ℕ) (l r : Matrix K) (zl zr : Matrix Z) (i j : ℕ) → ((p : ℕ) → p < n → R m (l i p) (zl i p))
      → ((p : ℕ) → p < n → R m (r p j) (zr p j))
      → n * (m * m) ≤ bound → R (n * (m * m)) (dot K n l r i j) (dot Z n zl zr i j)
  dot-respects n m l r zl zr i j t t' h =
      sum-respects n (m * m) _ _ (λ p k. S.mul (t p k) (t' p k) (le_trans (omega (arith, mul-le-mul_right (m * m) k)) h)) h

-- ---- readings of a matrix, of every kind alike

abbrev pub Reading : Type 1
Reading = (K : Kind) → Matrix K → Matrix K

-- element (i, p) of the reading is element (r, c), or its conjugate
pub data Reveals (reading : Reading) (i p r c : ℕ) : Type 1 where
  plain : ((K : Kind) (a : Matrix K) → reading K a i p ≡ a r c) → Reveals reading i p r c
  conjugated : ((K : Kind) (a : Matrix K) → reading K a i p ≡ K.conj (a r c)) → Reveals reading i p r c

-- what the conjugate has, the reading has
pub shows-by : {K Z : Kind} (R : K.Elem → Z.Elem → Type 0) → ((x : K.Elem) (z : Z.Elem) → R x z → R (K.conj x) (Z.conj z))
    → (reading : Reading) (i p r c : ℕ) → Reveals reading i p r c → (a : Matrix K) (z : Matrix Z) → R (a r c) (z r c)
    → R (reading K a i p) (reading Z z i p)
shows-by {K} {Z} R turn reading i p r c (plain e) a z h = rw (e K a, e Z z) h
shows-by {K} {Z} R turn reading i p r c (conjugated e) a z h = rw (e K a, e Z z) (turn _ _ h)

pub same-shown : (K : Kind) → Laws K → (reading : Reading) (i p r c : ℕ) → Reveals reading i p r c → (a a' : Matrix K)
    → Same K (reading K a i p) (reading K a' i p) → Same K (a r c) (a' r c)
same-shown K L reading i p r c (plain e) a a' h = rw (e K a, e K a') at h
same-shown K L reading i p r c (conjugated e) a a' h = L.conj-same (rw (e K a, e K a') at h)

-- the named element that (i, p) of the reading shows
pub record Source (names : Mask) (v : View) (reading : Reading) (i p : ℕ) : Type 1 where
  pub row : ℕ
  pub col : ℕ
  pub named : Named names v row col
  pub shows : Reveals reading i p row col

-- where the reading, m by n, shows (r, c)
pub record Spot (m n : ℕ) (reading : Reading) (r c : ℕ) : Type 1 where
  pub row : ℕ
  pub col : ℕ
  pub row_lt : row < m
  pub col-lt : col < n
  pub shows : Reveals reading row col r c

-- each element of the reading is a named element or its conjugate, and each named element is read so somewhere
pub record Faithful (names : Mask) (v : View) (m n : ℕ) (reading : Reading) : Type 1 where
  pub source : (i p : ℕ) → i < m → p < n → Source names v reading i p
  pub spot : (r c : ℕ) → Named names v r c → Spot m n reading r c

pub reading-by : {K Z : Kind} {names : Mask} {v : View} {m n : ℕ} {reading : Reading} → Faithful names v m n reading
    → (R : K.Elem → Z.Elem → Type 0)
    → ((x : K.Elem) (z : Z.Elem) → R x z → R (K.conj x) (Z.conj z)) → (a : Matrix K) (z : Matrix Z)
    → Below R names v.rows v.cols a z → (i p : ℕ) → i < m → p < n → R (reading K a i p) (reading Z z i p)
reading-by {reading = reading} F R turn a z h i p l q =
    let s = F.source i p l q in
    shows-by R turn reading i p s.row s.col s.shows a z (h s.row s.col s.named.row s.named.col s.named.named)

-- ---- op(A)

pub op_same : (t : Trans) (v v' : View) → SameShape v v' → (op_rows t v ≡ op_rows t v') × (op_cols t v ≡ op_cols t v')
op_same NoTrans v v' w = (w.rows, w.cols)
op_same Transposed v v' w = (w.cols, w.rows)
op_same ConjTrans v v' w = (w.cols, w.rows)

pub op_le : (t : Trans) (v : View) → v.rows ≤ limit → v.cols ≤ limit → (op_rows t v ≤ limit) × (op_cols t v ≤ limit)
op_le NoTrans v p q = (p, q)
op_le Transposed v p q = (q, p)
op_le ConjTrans v p q = (q, p)

pub op-faithful : (v : View) (t : Trans) → Faithful whole_matrix v (op_rows t v) (op_cols t v) (λ K. op K t)
op-faithful v NoTrans = record {
  source = λ i p l q. record { row = i; col = p; named = record { row = l; col = q; named = refl }; shows = plain (λ K a. refl) };
  spot = λ r c h. record { row = r; col = c; row_lt = h.row; col-lt = h.col; shows = plain (λ K a. refl) };
}
op-faithful v Transposed = record {
  source = λ i p l q. record { row = p; col = i; named = record { row = q; col = l; named = refl }; shows = plain (λ K a. refl) };
  spot = λ r c h. record { row = c; col = r; row_lt = h.col; col-lt = h.row; shows = plain (λ K a. refl) };
}
op-faithful v ConjTrans = record {
  source = λ i p l q. record { row = p; col = i; named = record { row = q; col = l; named = refl }; shows = conjugated (λ K a. refl) };
  spot = λ r c h. record { row = c; col = r; row_lt = h.col; col-lt = h.row; shows = conjugated (λ K a. refl) };
}

-- ---- the named triangle of a square matrix

-- an element outside the triangle is the mirror image of one inside
mirror : (uplo : UpLo) (i p : ℕ) → in_triangle uplo i p ≡ false → in_triangle uplo p i ≡ true
mirror Upper i p h = le-leb p i (omega (arith, leb-false i p h))
mirror Lower i p h = le-leb i p (omega (arith, leb-false p i h))

-- every named element is inside, and the other way round
named-inside : (uplo : UpLo) (i p : ℕ) → triangle uplo i p ≡ true → in_triangle uplo i p ≡ true
named-inside uplo i p h = h

inside-named : (uplo : UpLo) (i p : ℕ) → in_triangle uplo i p ≡ true → triangle uplo i p ≡ true
inside-named uplo i p h = cc

module _ (uplo : UpLo) (v : View) (n : ℕ) (hr : v.rows ≡ n) (hc : v.cols ≡ n) where
  -- the other triangle read by `turn` of the mirror image
  abbrev folded : ((K : Kind) → K.Elem → K.Elem) → Reading
  folded turn K a i p = cond (in_triangle uplo i p) (a i p) (turn K (a p i))

  folded-faithful : (turn : (K : Kind) → K.Elem → K.Elem) → ((i p : ℕ) → in_triangle uplo i p ≡ false → Reveals (folded turn) i p p i)
      → Faithful (triangle uplo) v n n (folded turn)
  folded-faithful turn h = record {
    source = λ i p l q. at i p l q (in_triangle uplo i p) refl;
    spot = λ r c m. record {
      row = r;
      col = c;
      row_lt = omega (arith, m.row);
      col-lt = omega (arith, m.col);
      shows = plain (λ K a. ap (λ (b : Bool). cond b (a r c) (turn K (a c r))) (named-inside uplo r c m.named));
    };
  }
    where
      at : (i p : ℕ) → i < n → p < n → (b : Bool) → in_triangle uplo i p ≡ b → Source (triangle uplo) v (folded turn) i p
      at i p l q true e = record {
        row = i;
        col = p;
        named = record { row = omega arith; col = omega arith; named = inside-named uplo i p e };
        shows = plain (λ K a. ap (λ (b : Bool). cond b (a i p) (turn K (a p i))) e);
      }
      at i p l q false e = record {
        row = p;
        col = i;
        named = record { row = omega arith; col = omega arith; named = inside-named uplo p i (mirror uplo i p e) };
        shows = h i p e;
      }

  pub symmetric-faithful : Faithful (triangle uplo) v n n (λ K. symmetric K uplo)
  symmetric-faithful = folded-faithful (λ K x. x) (λ i p e. plain (λ K a. ap (λ (b : Bool). cond b (a i p) (a p i)) e))

  pub hermitian-faithful : Faithful (triangle uplo) v n n (λ K. hermitian K uplo)
  hermitian-faithful = folded-faithful (λ K. K.conj) (λ i p e. conjugated (λ K a. ap (λ (b : Bool). cond b (a i p) (K.conj (a p i))) e))
