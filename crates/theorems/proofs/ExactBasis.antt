-- Exactness over any kind with its whole numbers: sizes and the room that document 01's range leaves them, what a scalar does to numbers of the
-- range, and the frame of every exact routine.
use Prim.Native.Nat.{ℕ, ◌+◌, ◌*◌, ◌≤◌, ◌<◌}
use mathlib.Core.Bool.{Bool, true, false, cond}
use mathlib.Core.List.{List}
use mathlib.Core.Path.{◌≡◌, refl, sym, subst, ◌∙◌}
use native.Mathlib.Nat.{le_refl, le_of_eq, le_trans, mul-le-mul, mul-le-mul_left, mul-le-mul_right}
use native.Mathlib.Omega.{arith}
use lib.Dec.{lit≤}
use Rattle.number.specs.Kind.{Kind, Same, SameFactor}
use Rattle.number.specs.Scaling.{scaled, scaled_real}
use Rattle.number.specs.Laws.{Laws, Exact}
use Rattle.theorems.proofs.Words.{View, Answer, Done, TooLarge, OutOfBounds, ShapeMismatch, Overlap, Singular}
use Rattle.view.specs.Refusals.{limit, overlaps}
use Rattle.view.specs.Steps.{Accepted}
use Rattle.view.specs.Vector.{column_of}
use Rattle.slabs.specs.Elem.{Lent, lent, elem}
use Rattle.slabs.specs.Update.{Mask, Change, everywhere, update}
use Rattle.blas.specs.Matrix.{Matrix, matrix, vector, dot}
use Rattle.blas.specs.Outcome.{outcome}
use Rattle.blas.proofs.Elements.{element-law}
use Rattle.theorems.specs.Exactness.{Wholes, Whole, Scalar, RealScalar, Shows, ShowsVector, Leaves, largest_part, largest_scalar_part}
use Rattle.theorems.proofs.Respects.{Below, Respected, dot-respects, Reading, Faithful, reading-by}
use Rattle.theorems.proofs.Rings.{Ring, zero-times, one-times}

-- ---- room

-- s (m + n m²) is at most the bound: with elements of size m and scalars of size s, no intermediate result of n products passes it
pub record Room (bound n m s : ℕ) : Type 0 where
  pub some : 1 ≤ s
  pub room : s * m + s * (n * (m * m)) ≤ bound

-- fewer terms
pub room-less : (bound n n' m s : ℕ) → n' ≤ n → Room bound n m s → Room bound n' m s
room-less bound n n' m s h r = record {
  some = r.some;
  room = le_trans (omega (arith, mul-le-mul (le_refl s) (mul-le-mul h (le_refl (m * m))))) r.room;
}

-- ---- sizes

module _ {K Z : Kind} (E : Exact K Z) where
  -- x is z as a number, of size at most m
  pub record Sized (m : ℕ) (x : K.Elem) (z : Z.Elem) : Type 0 where
    pub same : Same K x (E.of_whole z)
    pub size : E.size z ≤ m

  -- a real factor
  pub record SizedFactor (s : ℕ) (v : K.Factor) (c : Z.Factor) : Type 0 where
    pub same : SameFactor K v (E.of_whole_factor c)
    pub size : E.size_factor c ≤ s

  pub sized-respected : Respected K Z E.bound Sized
  sized-respected = record {
    wider = λ h p. record { same = p.same; size = le_trans p.size h };
    zeros = record { same = E.zero-exact; size = omega (arith, E.size-zero) };
    add = λ {m} {n} {x} {y} {a} {b} p q h. record {
      same = E.add-exact p.same q.same (omega (arith, p.size, q.size));
      size = omega (arith, E.size-add a b, p.size, q.size);
    };
    mul = λ {m} {n} {x} {y} {a} {b} p q h. let k = mul-le-mul p.size q.size in record {
      same = E.mul-exact p.same q.same (le_trans k h);
      size = le_trans (E.size-mul a b) k;
    };
    conj = λ {m} {x} {z} p. record { same = E.conj-exact p.same; size = le_trans (le_of_eq (E.size-conj z)) p.size };
  }

  pub scale-sized : {s m : ℕ} {v : K.Factor} {y : K.Elem} {c : Z.Factor} {b : Z.Elem} → SizedFactor s v c → Sized m y b → s * m ≤ E.bound
      → Sized (s * m) (K.scale_real v y) (Z.scale_real c b)
  scale-sized {c = c} {b = b} p q h =
      let k = mul-le-mul p.size q.size in
      record { same = E.scale-exact p.same q.same (le_trans k h); size = le_trans (E.size_scale c b) k }

  -- scaling by beta is the product with beta, for beta 0 and 1 too; what beta 0 does not read may be any number
  judged : (k : ℕ) (zeroed one : Bool) (x y : K.Elem) (z p : Z.Elem) → (zeroed ≡ true → p ≡ Z.zero) → (one ≡ true → p ≡ z)
      → (zeroed ≡ false → Same K x (E.of_whole z)) → (zeroed ≡ false → Sized k y p) → Sized k (cond zeroed K.zero (cond one x y)) p
  judged k true one x y z p e e' h t = record {
    same = rw (e refl) E.zero-exact;
    size = subst (λ (w : Z.Elem). E.size w ≤ k) (sym (e refl)) (omega (arith, E.size-zero));
  }
  judged k false true x y z p e e' h t = record { same = subst (λ (w : Z.Elem). Same K x (E.of_whole w)) (sym (e' refl)) (h refl); size = (t refl).size }
  judged k false false x y z p e e' h t = t refl

  module _ (R : Ring Z) {s m : ℕ} (h : s * m ≤ E.bound) {y : K.Elem} {b : Z.Elem} where
    scaled-sized : {x : K.Elem} {a : Z.Elem} → Sized s x a → (Z.is_zero a ≡ false → Sized m y b) → Sized (s * m) (scaled K x y) (Z.mul a b)
    scaled-sized {x} {a} p q =
        let e = sym (E.is_zero-exact p.same) in
        judged (s * m) (K.is_zero x) (K.is_one x) y (K.mul x y) b (Z.mul a b)
        (λ u. zero-times R a b (e ∙ u))
        (λ u. one-times R a b (sym (E.is_one-exact p.same) ∙ u))
        (λ u. (q (e ∙ u)).same)
        (λ u. sized-respected.mul p (q (e ∙ u)) h)

    scaled-real-sized : {v : K.Factor} {c : Z.Factor} → SizedFactor s v c → (Z.is_zero_factor c ≡ false → Sized m y b)
        → Sized (s * m) (scaled_real K v y) (Z.scale_real c b)
    scaled-real-sized {v} {c} p q =
        let e = sym (E.is_zero_factor-exact p.same) in
        judged (s * m) (K.is_zero_factor v) (K.is_one_factor v) y (K.scale_real v y) b (Z.scale_real c b)
        (λ u. R.zero-scale c b (e ∙ u))
        (λ u. R.one-scale c b (sym (E.is_one_factor-exact p.same) ∙ u))
        (λ u. (q (e ∙ u)).same)
        (λ u. scale-sized p (q (e ∙ u)) h)

-- ---- what the theorems rest on, of a kind and its whole numbers

pub record Basis (K Z : Kind) : Type 0 where
  pub laws : Laws K
  pub exact : Exact K Z
  pub ring : Ring Z
  -- the magnitude of a whole number's largest part; how many parts, each of at most that, make up its size
  pub magnitude : Z.Elem → ℕ
  pub factor_magnitude : Z.Factor → ℕ
  pub parts : ℕ
  pub size-le : (z : Z.Elem) → exact.size z ≤ parts * magnitude z
  pub factor-size-le : (v : Z.Factor) → exact.size_factor v ≤ parts * factor_magnitude v
  pub size-one : exact.size Z.one ≤ parts * largest_part
  -- the range of document 01 leaves room for every shape, with two products for each index
  pub room : (n : ℕ) → n ≤ 2 * limit → Room exact.bound n (parts * largest_part) (parts * largest_scalar_part)

abbrev pub wholes : {K Z : Kind} → Basis K Z → Wholes K Z
wholes B = record { number = B.exact.of_whole; factor = B.exact.of_whole_factor; magnitude = B.magnitude; factor_magnitude = B.factor_magnitude }

-- numbers of terms: a routine may add two products for each index
abbrev pub Few : ℕ → Type 0
Few n = n ≤ 2 * limit

module _ {K Z : Kind} (B : Basis K Z) where
  -- the sizes of the range, of one product and of n, and the same times a scalar
  abbrev pub element_size : ℕ
  element_size = B.parts * largest_part

  abbrev pub scalar_size : ℕ
  scalar_size = B.parts * largest_scalar_part

  abbrev pub sum_size : ℕ → ℕ
  sum_size n = n * (element_size * element_size)

  -- they leave room
  pub scaled_fits : scalar_size * element_size ≤ B.exact.bound
  scaled_fits = omega (arith, (B.room 0 (lit≤ tt)).room)

  pub product-fits : element_size * element_size ≤ B.exact.bound
  product-fits = omega (arith, mul-le-mul_right (element_size * element_size) (B.room 1 (lit≤ tt)).some, (B.room 1 (lit≤ tt)).room)

  pub sums-fit : (n : ℕ) → Few n → sum_size n ≤ B.exact.bound
  sums-fit n few = let r = B.room n few in omega (arith, mul-le-mul_right (sum_size n) r.some, r.room)

  pub weighed-fit : (n : ℕ) → Few n → scalar_size * sum_size n ≤ B.exact.bound
  weighed-fit n few = omega (arith, (B.room n few).room)

  -- ---- scalars, matrices and vectors of the range

  pub scalar-sized : {x : K.Elem} {z : Z.Elem} → Scalar (wholes B) x z → Sized B.exact scalar_size x z
  scalar-sized {x} {z} h = record { same = h.same; size = le_trans (B.size-le z) (mul-le-mul_left B.parts h.small) }

  pub factor-sized : {v : K.Factor} {z : Z.Factor} → RealScalar (wholes B) v z → SizedFactor B.exact scalar_size v z
  factor-sized {v} {z} h = record { same = h.same; size = le_trans (B.factor-size-le z) (mul-le-mul_left B.parts h.small) }

  element-sized : {x : K.Elem} {z : Z.Elem} → Whole (wholes B) largest_part x z → Sized B.exact element_size x z
  element-sized {x} {z} h = record { same = h.same; size = le_trans (B.size-le z) (mul-le-mul_left B.parts h.small) }

  abbrev pub Range : Mask → ℕ → ℕ → Matrix K → Matrix Z → Type 0
  Range = Below (Sized B.exact element_size)

  pub shows-sized : {named : Mask} {a : Lent K} {z : Matrix Z} → Shows (wholes B) named a z
      → Range named a.view.rows a.view.cols (matrix K a) z
  shows-sized h i j p q u = element-sized (h.shown i j p q u)

  -- a vector as a matrix of one column
  pub vector-sized : {x : Lent K} {z : ℕ → Z.Elem} → ShowsVector (wholes B) x z
      → Range everywhere (column_of x.view).rows 1 (vector K x) (λ i j. z i)
  vector-sized {x} {z} h i j p q u =
      let e : j ≡ 0 = omega arith in
      subst (λ (k : ℕ). Sized B.exact element_size (vector K x i k) (z i)) (sym e) (element-sized (h.shown i p))

  -- a reading of a matrix
  pub read : {names : Mask} {m n : ℕ} {reading : Reading} (a : Lent K) {z : Matrix Z} → Faithful names a.view m n reading
      → Shows (wholes B) names a z
      → Range everywhere m n (reading K (matrix K a)) (reading Z z)
  read a {z} F h i j p q u = reading-by F (Sized B.exact element_size) (λ x z. (sized-respected B.exact).conj) (matrix K a) z (shows-sized h) i j p q

  -- a matrix of the same shape
  pub fit : {mask : Mask} {m m' n n' : ℕ} {a : Matrix K} {z : Matrix Z} → m' ≡ m → n' ≡ n → Range mask m n a z → Range mask m' n' a z
  fit e e' h i j p q u = h i j (omega arith) (omega arith) u

  -- ---- the frame: a call that answers 0 has passed its check, and what its update makes of a written element is what the target shows

  abbrev pub Ready : View → ℕ → Type 0
  Ready v len = Accepted v len × (overlaps v ≡ false)

  pub framed : (v : View) (mask : Mask) (u : Change K) (slab : List K.Cell) (z : Matrix Z) (check : Answer)
      → (outcome K check (update K v mask u slab) slab).answer ≡ 0
      → (check ≡ Done → Ready v (K.count slab)
      × ((i j : ℕ) → i < v.rows → j < v.cols → mask i j ≡ true → Same K (u i j (elem K slab v i j)) (B.exact.of_whole (z i j))))
      → Leaves (wholes B) mask (outcome K check (update K v mask u slab) slab).slab (lent K slab v) z
  framed v mask u slab z Done done h =
      let law = element-law K B.laws.slab v mask u slab Done (λ d. ((h refl).0.0.fits, (h refl).0.1)) done in
      record { left = λ i j p q m. rw (law.written i j p q m) ((h refl).1 i j p q m); kept = law.kept }
  framed v mask u slab z TooLarge done h = absurd (omega arith)
  framed v mask u slab z OutOfBounds done h = absurd (omega arith)
  framed v mask u slab z ShapeMismatch done h = absurd (omega arith)
  framed v mask u slab z Overlap done h = absurd (omega arith)
  framed v mask u slab z Singular done h = absurd (omega arith)

  -- equal formulas
  pub becomes : {mask : Mask} {after : List K.Cell} {c : Lent K} {z z' : Matrix Z} → ((i j : ℕ) → z i j ≡ z' i j)
      → Leaves (wholes B) mask after c z → Leaves (wholes B) mask after c z'
  becomes {mask} {after} {c} e l = record {
    left = λ i j p q u. subst (λ (w : Z.Elem). Same K (elem K after c.view i j) (B.exact.of_whole w)) (e i j) (l.left i j p q u);
    kept = l.kept;
  }

  -- ---- a target scaled by beta, plus n products times alpha

  -- the target, scaled
  abbrev pub Scaled : Mask → ℕ → ℕ → Matrix K → Matrix Z → Type 0
  Scaled = Below (Sized B.exact (scalar_size * element_size))

  pub by-beta : {mask : Mask} {m n : ℕ} {x : Matrix K} {z : Matrix Z} {beta : K.Elem} {zbeta : Z.Elem} → Scalar (wholes B) beta zbeta
      → (Z.is_zero zbeta ≡ false → Range mask m n x z) → Scaled mask m n (λ i j. scaled K beta (x i j)) (λ i j. Z.mul zbeta (z i j))
  by-beta h old i j p q u = scaled-sized B.exact B.ring scaled_fits (scalar-sized h) (λ e. old e i j p q u)

  pub by-real-beta : {mask : Mask} {m n : ℕ} {x : Matrix K} {z : Matrix Z} {beta : K.Factor} {zbeta : Z.Factor} → RealScalar (wholes B) beta zbeta
      → (Z.is_zero_factor zbeta ≡ false → Range mask m n x z) → Scaled mask m n (λ i j. scaled_real K beta (x i j)) (λ i j. Z.scale_real zbeta (z i j))
  by-real-beta h old i j p q u = scaled-real-sized B.exact B.ring scaled_fits (factor-sized h) (λ e. old e i j p q u)

  module _ {n : ℕ} (few : Few n) where
    -- n products an element
    abbrev pub Sums : ℕ → ℕ → Matrix K → Matrix Z → Type 0
    Sums = Below (Sized B.exact (sum_size n)) everywhere

    -- the same times a scalar
    abbrev pub Weighed : ℕ → ℕ → Matrix K → Matrix Z → Type 0
    Weighed = Below (Sized B.exact (scalar_size * sum_size n)) everywhere

    pub dot-sums : {rows cols : ℕ} {l r : Matrix K} {zl zr : Matrix Z} → Range everywhere rows n l zl → Range everywhere n cols r zr
        → Sums rows cols (dot K n l r) (dot Z n zl zr)
    dot-sums {l = l} {r = r} {zl = zl} {zr = zr} hl hr i j p q u =
        dot-respects (sized-respected B.exact) n element_size l r zl zr i j (λ k b. hl i k p b refl) (λ k b. hr k j b q refl) (sums-fit n few)

    pub by-alpha : {rows cols : ℕ} {x : Matrix K} {z : Matrix Z} {alpha : K.Elem} {zalpha : Z.Elem} → Scalar (wholes B) alpha zalpha
        → Sums rows cols x z
        → Weighed rows cols (λ i j. K.mul alpha (x i j)) (λ i j. Z.mul zalpha (z i j))
    by-alpha h sums i j p q u = (sized-respected B.exact).mul (scalar-sized h) (sums i j p q u) (weighed-fit n few)

    pub by-real-alpha : {rows cols : ℕ} {x : Matrix K} {z : Matrix Z} {alpha : K.Factor} {zalpha : Z.Factor} → RealScalar (wholes B) alpha zalpha
        → Sums rows cols x z
        → Weighed rows cols (λ i j. K.scale_real alpha (x i j)) (λ i j. Z.scale_real zalpha (z i j))
    by-real-alpha h sums i j p q u = scale-sized B.exact (factor-sized h) (sums i j p q u) (weighed-fit n few)

    pub added : {mask : Mask} {rows cols : ℕ} {x y : Matrix K} {old sums : Matrix Z} → Scaled mask rows cols x old → Weighed rows cols y sums
        → (i j : ℕ) → i < rows → j < cols
        → mask i j ≡ true → Same K (K.add (x i j) (y i j)) (B.exact.of_whole (Z.add (old i j) (sums i j)))
    added h g i j p q u = ((sized-respected B.exact).add (h i j p q u) (g i j p q refl) (B.room n few).room).same
