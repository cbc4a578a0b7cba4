-- What trmv and trmm can see of A, at every setting of their flags, over any number kind with its laws; before that, what is asked of a routine
-- with one view besides A's, which is right-hand side and target.
use Prim.Native.Nat.{ℕ, ◌*◌, ◌^◌, ◌≤◌, ◌<◌}
use mathlib.Core.Bool.{Bool, true, ◌&&◌}
use mathlib.Core.List.{List, [], ◌∷◌}
use mathlib.Core.Path.{◌≡◌, refl, sym, subst, ◌∙◌}
use native.Mathlib.Nat.{mul-zero}
use native.Mathlib.Omega.{arith}
use lib.Dec.{eqb}
use lib.ListN.{length}
use Rattle.number.specs.Kind.{Kind, Same, Holds, Finite}
use Rattle.number.specs.Laws.{Laws, Held}
use Rattle.theorems.proofs.Words.{View, Trans, UpLo, Diag, Side, Left, Right}
use Rattle.view.specs.Refusals.{limit}
use Rattle.view.specs.Steps.{Accepted}
use Rattle.view.specs.Judge.{arg}
use Rattle.view.specs.Checks.{order_of, shaped, vector_of, trmv_shape, trmm_shape}
use Rattle.view.specs.Vector.{column_of}
use Rattle.view.proofs.AnyLaws.{and_both}
use Rattle.view.proofs.JudgeLaws.{trmv-sizes, trmm-sizes}
use Rattle.slabs.specs.Elem.{lent, elem}
use Rattle.slabs.specs.Update.{Mask, everywhere, update}
use Rattle.slabs.proofs.UpdateLaws.{update-same-slab}
use Rattle.blas.specs.Matrix.{Matrix}
use Rattle.blas.specs.Outcome.{Outcome}
use Rattle.blas.specs.Triangular.{triangular_dot}
use Rattle.blas.specs.Substitution.{unknown_at, unknown}
use Rattle.blas.specs.Trmv.{trmv}
use Rattle.blas.specs.Trmm.{trmm}
use Rattle.theorems.specs.Agreement.{SameOutcome, SameShape, Square, Sees}
use Rattle.theorems.specs.TriangularAgreement.{named, Single, run_plain, run_scaled}
use Rattle.theorems.proofs.Respects.{Below, Fit, same-respected}
use Rattle.theorems.proofs.Triangles.{coefficient, row_in, col_in, in_both, named_back, element-back, coefficient-holds, coefficient-finite, takes, named-takes, entry_named, entry-by, product_at, product-respects, unknown_in, unknown-lt, beside, dot-is}
use Rattle.theorems.proofs.AgreeCalls.{Routine, worked, Plain, updates-see, Picks, over-picks, line, strip, strip-fair, vector_line, shaped-as, Strip, strip-strip, vector-strip, row_at, col_at, strip-shown, unknown-same, Zeros, unit_slab, unit-count, unit-held, unit_size, unit-picks}

-- ---- a routine that multiplies or solves in place

-- what is done when a call is not refused: by alpha, A, B's view as it is written, and B's slab
abbrev pub InPlace : Kind → Type 0
InPlace K = K.Elem → Matrix K → View → List K.Cell → Outcome K

-- a slab of n elements for B, written through v: with alpha one, the same outcome tells that the matrix a' has the element (r, c) of a
pub record Told (K : Kind) (work : InPlace K) (names : Mask) (n : ℕ) (v : View) (a : Matrix K) (r c : ℕ) : Type 0 where
  pub slab : List K.Cell
  pub count : K.count slab ≡ n
  pub numbers : Held K slab
  pub size : K.bytes * length slab < 2 ^ 63
  pub tells : (a' : Matrix K) → Fit K names n n a' → SameOutcome K (work K.one a v slab) (work K.one a' v slab) → Same K (a r c) (a' r c)

-- one for each named element
abbrev pub Tells : (K : Kind) → InPlace K → Mask → ℕ → View → Type 0
Tells K work names n v = (a : Matrix K) → Fit K names n n a → (r c : ℕ) → r < n → c < n → names r c ≡ true → Told K work names n v a r c

-- the work respects the named elements
abbrev pub Keeps : (K : Kind) → Side → InPlace K → Mask → Type 0
Keeps K side work names =
    (alpha : K.Elem) (a a' : Matrix K) (v : View) (s : List K.Cell) → Below (Same K) names (order_of side v) (order_of side v) a a'
    → SameOutcome K (work alpha a v s) (work alpha a' v s)

abbrev pub routine : (K : Kind) → (View → View → Bool) → Routine K (Single K)
routine K shapes = record {
  others = λ o. arg o.target.view (K.count o.target.slab) ∷ [];
  shapes = λ v o. shapes v o.target.view;
  target = λ o. o.target.view;
  entry = λ o. o.target.slab;
}

module _ {K : Kind} (L : Laws K) (side : Side) (shapes : View → View → Bool) (written : View → View) (work : InPlace K) (names : Mask)
    (same : (v v' b : View) → SameShape v v' → shapes v b ≡ shapes v' b)
    (square : (v b : View) → shapes v b ≡ true → (v.rows ≡ order_of side (written b)) × (v.cols ≡ order_of side (written b)))
    (fits : (v : View) (n : ℕ) → v.rows ≡ n → v.cols ≡ n → shapes v (strip side n) ≡ true)
    (keeps : Keeps K side work names) (tells : (n : ℕ) → n ≤ limit → Tells K work names n (written (strip side n))) where
  refit : {m m' n n' : ℕ} {a : Matrix K} → m' ≡ m → n' ≡ n → Fit K names m n a → Fit K names m' n' a
  refit e e' h = record { holds = h.holds; finite = λ i j p q m. h.finite i j (omega arith) (omega arith) m }

  single-plain : Plain (routine K shapes) (λ v a o. work o.alpha a (written o.target.view) o.target.slab) Square names
  single-plain = record {
    shapes-same = λ v v' o w. same v v' o.target.view w;
    work-same = λ v v' a a' o w s h.
        let z = square v o.target.view s in
        keeps o.alpha a a' (written o.target.view) o.target.slab (λ i j p q m. h i j (omega (arith, z.0)) (omega (arith, z.1)) m);
    shot = λ v a form p q fit r c m.
        let t = tells v.rows p a (refit refl form fit) r c m.row (omega (arith, m.col, form)) m.named in
        let fair = strip-fair side v.rows p in
        record {
          call = record {
            alpha = K.one;
            target = lent K t.slab (strip side v.rows);
            alpha-holds = L.one_holds;
            target-lendable = record { numbers = t.numbers; size = t.size; words = fair.words };
          };
          each = (subst (Accepted (strip side v.rows)) (sym t.count) fair.accepted, tt);
          shape = fits v v.rows refl (sym form);
          apart = fair.apart;
          tells = λ v' a' w fit' o. t.tells a' (refit w.rows (form ∙ w.cols) fit') o;
        };
  }

-- a matrix B, or a vector x
module _ {K : Kind} (L : Laws K) (work : InPlace K) (names : Mask) where
  pub matrix-plain : (side : Side) → Keeps K side work names → ((n : ℕ) → n ≤ limit → Tells K work names n (strip side n))
      → Plain (routine K (trmm_shape side)) (λ v a o. work o.alpha a o.target.view o.target.slab) Square names
  unfolding trmm_shape
  matrix-plain side keeps tells =
      single-plain L side (trmm_shape side) (λ v. v) work names
      (λ v v' b w. λ i. eqb (w.rows i) (order_of side b) && eqb (w.cols i) (order_of side b))
      (λ v b s. trmm-sizes side v b s)
      (λ v n p q. let e = sym (order side n) in shaped-as v (order_of side (strip side n)) (order_of side (strip side n)) (p ∙ e) (q ∙ e))
      keeps
      tells
    where
      order : (side : Side) (n : ℕ) → order_of side (strip side n) ≡ n
      order Left n = refl
      order Right n = refl

  pub vector-plain : Keeps K Left work names → ((n : ℕ) → n ≤ limit → Tells K work names n (column_of (strip Left n)))
      → Plain (routine K trmv_shape) (λ v a o. work o.alpha a (column_of o.target.view) o.target.slab) Square names
  unfolding trmv_shape
  vector-plain keeps tells =
      single-plain L Left trmv_shape column_of work names
      (λ v v' b w. λ i. (eqb (w.rows i) (w.rows i) && eqb (w.cols i) (w.rows i)) && vector_of b (w.rows i))
      (λ v b s. let z = trmv-sizes v b s in (sym z.1.length, z.0 ∙ sym z.1.length))
      (λ v n p q. and_both (shaped v v.rows v.rows) (vector_of (line n 1) v.rows)
      (shaped-as v v.rows v.rows refl (q ∙ sym p)) (subst (λ (m : ℕ). vector_of (line n 1) m ≡ true) (sym p) (vector_line n)))
      keeps
      tells

-- ---- the product of op(A)'s triangle and a line

module _ (K : Kind) (L : Laws K) (side : Side) (uplo : UpLo) (t : Trans) (diag : Diag) where
  product-same : (n : ℕ) (a a' : Matrix K) (x : ℕ → K.Elem) (q : ℕ) → q < n → Below (Same K) (named uplo diag) n n a a'
      → Same K (product_at side uplo t diag K n a x q) (product_at side uplo t diag K n a' x q)
  product-same n a a' x q hq h =
      product-respects side uplo t diag (same-respected K L) 0 n (L.same_refl K.one) a a' x x q hq h (λ p l. L.same_refl (x p)) (omega (arith, mul-zero n))

  -- a unit vector picks the coefficient
  product_value : (n : ℕ) (a : Matrix K) (x : ℕ → K.Elem) (q p : ℕ) → q < n → p < n → Fit K (named uplo diag) n n a → Picks K n p x
      → named uplo diag (row_in side t q p) (col_in side t q p) ≡ true → Same K (product_at side uplo t diag K n a x q) (coefficient K side t a q p)
  product_value n a x q p hq hp h u m =
      let e = entry_named side uplo t diag q p m K a in
      subst (λ (c : K.Elem). Same K (product_at side uplo t diag K n a x q) c) e
      (over-picks K L side n p (λ p. takes side uplo t q p) _ x hp (named-takes side uplo t diag q p m) u
      (λ p l m. entry-by side uplo t diag K K (λ x y. Finite K x) (λ x y. L.conj-finite) L.one-finite n q p hq l m a a h.finite)
      (subst (Holds K) (sym e) (coefficient-holds K L side t q p a h.holds)))

-- unknown q of the first line of the definition's product
line-is : (K : Kind) (side : Side) (uplo : UpLo) (t : Trans) (diag : Diag) (n : ℕ) (a : Matrix K) (v : View) (s : List K.Cell) (q : ℕ)
    → triangular_dot K side uplo t diag n a (λ i j. elem K s v i j) (row_at side q) (col_at side q) ≡ product_at side uplo t diag K n a (λ p. unknown K side s v p 0) q
line-is K Left uplo t diag n a v s q = refl
line-is K Right uplo t diag n a v s q = refl

-- ---- a routine: alpha's part is `scale`, which respects the numbers, and ONE changes none

record Scales (K : Kind) (scale : K.Elem → K.Elem → K.Elem) : Type 0 where
  cong : (alpha : K.Elem) {x y : K.Elem} → Same K x y → Same K (scale alpha x) (scale alpha y)
  by_one : {x : K.Elem} → Holds K x → Finite K x → Same K (scale K.one x) x

abbrev multiplied : (K : Kind) → Side → UpLo → Trans → Diag → (K.Elem → K.Elem → K.Elem) → K.Elem → Matrix K → View → List K.Cell
    → List K.Cell
multiplied K side uplo t diag scale alpha a v s =
    update K v everywhere (λ i j old. scale alpha (triangular_dot K side uplo t diag (order_of side v) a (λ i j. elem K s v i j) i j)) s

module _ (K : Kind) (L : Laws K) (side : Side) (uplo : UpLo) (t : Trans) (diag : Diag) (scale : K.Elem → K.Elem → K.Elem) (S : Scales K scale) where
  abbrev multiplies : InPlace K
  multiplies alpha a v s = worked K (multiplied K side uplo t diag scale alpha a v s)

  product-keeps : Keeps K side multiplies (named uplo diag)
  product-keeps alpha a a' v s h = record {
    answer = refl;
    slab = update-same-slab K L.slab v everywhere _ _
        (λ i j p q m x y e.
        S.cong alpha
        (rw (dot-is K side uplo t diag (order_of side v) a (λ i j. elem K s v i j) i j, dot-is K side uplo t diag (order_of side v) a' (λ i j. elem K s v i j) i j)
        (product-same K L side uplo t diag (order_of side v) a a' (beside K side (λ i j. elem K s v i j) i j) (unknown_in side i j) (unknown-lt side v i j p q) h)))
        s;
  }

  -- with a unit vector in the target
  multiplied-shows : (a : Matrix K) (v : View) (n : ℕ) → Strip side v n → (s : List K.Cell) → K.count s ≡ n → (q p : ℕ) → q < n → p < n
      → Fit K (named uplo diag) n n a → Picks K n p (λ p. unknown K side s v p 0) → named uplo diag (row_in side t q p) (col_in side t q p) ≡ true
      → Same K (unknown K side (multiplied K side uplo t diag scale K.one a v s) v q 0) (coefficient K side t a q p)
  multiplied-shows a v n w s e q p hq hp h u m =
      rw (
        strip-shown K L side v n w s e (λ i j old. scale K.one (triangular_dot K side uplo t diag (order_of side v) a (λ i j. elem K s v i j) i j)) q hq,
        w.order,
        line-is K side uplo t diag n a v s q,
      )
      (L.same-trans (S.cong K.one (product_value K L side uplo t diag n a (λ p. unknown K side s v p 0) q p hq hp h u m))
      (S.by_one (coefficient-holds K L side t q p a h.holds) (coefficient-finite K L side t q p a (named uplo diag) n hq hp m h)))

  product-tells : Zeros K → (n : ℕ) → n ≤ limit → (v : View) → Strip side v n → Tells K multiplies (named uplo diag) n v
  product-tells Z n small v w a h r c hr hc m =
      let q = row_in side t r c in
      let p = col_in side t r c in
      let s = unit_slab K L Z n p in
      let hq = in_both (λ i j. i < n) side t r c hr hc in
      let hp = in_both (λ i j. j < n) side t r c hc hr in
      let m' = named_back (named uplo diag) side t r c m in
      let u = unit-picks K L Z n p hp (λ p. unknown_at side v p 0) w.places in
      let count = unit-count K L Z n p in
      record {
        slab = s;
        count = count;
        numbers = unit-held K L Z n p;
        size = unit_size K L Z n p small;
        tells = λ a' h' o.
            element-back K L side t r c a a'
            (L.same-trans (L.same-sym (multiplied-shows a v n w s count q p hq hp h u m'))
            (L.same-trans (unknown-same L o side v q) (multiplied-shows a' v n w s count q p hq hp h' u m')));
      }

-- ---- trmv and trmm

module _ (K : Kind) (L : Laws K) (Z : Zeros K) (uplo : UpLo) (t : Trans) (diag : Diag) where
  -- trmv takes no alpha
  abbrev unscaled : K.Elem → K.Elem → K.Elem
  unscaled alpha x = x

  pub trmv-sees : Sees K (Single K) (run_plain K (trmv K uplo t diag)) Square (named uplo diag)
  unfolding trmv
  trmv-sees =
      let S : Scales K unscaled = record { cong = λ alpha h. h; by_one = λ {x} v f. L.same_refl x } in
      updates-see L (routine K trmv_shape) (λ v a o. multiplied K Left uplo t diag unscaled o.alpha a (column_of o.target.view) o.target.slab) Square (named uplo diag)
      (vector-plain L (multiplies K L Left uplo t diag unscaled S) (named uplo diag) (product-keeps K L Left uplo t diag unscaled S)
      (λ n small. product-tells K L Left uplo t diag unscaled S Z n small (column_of (strip Left n)) (vector-strip n small)))

  pub trmm-sees : (side : Side) → Sees K (Single K) (run_scaled K (trmm K side uplo t diag)) Square (named uplo diag)
  unfolding trmm
  trmm-sees side =
      let S : Scales K K.mul = record { cong = λ alpha h. L.mul-cong (L.same_refl alpha) h; by_one = λ {x} v f. L.one-mul v f } in
      updates-see L (routine K (trmm_shape side)) (λ v a o. multiplied K side uplo t diag K.mul o.alpha a o.target.view o.target.slab) Square (named uplo diag)
      (matrix-plain L (multiplies K L side uplo t diag K.mul S) (named uplo diag) side (product-keeps K L side uplo t diag K.mul S)
      (λ n small. product-tells K L side uplo t diag K.mul S Z n small (strip side n) (strip-strip side n small)))
