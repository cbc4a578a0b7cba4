-- What a passed check gives: every view is accepted, the shapes go together, and the target's elements are on distinct places.
use mathlib.Core.Path.{◌≡◌, refl, ◌∙◌, ap}
use mathlib.Core.Bool.{Bool, true, false, not}
use mathlib.Core.List.{List, [], ◌∷◌}
use Prim.Native.Nat.{ℕ, ◌≤◌}
use native.Mathlib.Omega.{arith}
use lib.Dec.{eqb, ltb}
use borrow.Author.Tests.{ltb-false, le-ltb, eqb-true, not-false}
use Rattle.view.specs.declared.View.{View}
use Rattle.view.specs.declared.Answer.{Answer}
use Rattle.view.specs.declared.Answer.TheVariants.{Done, TooLarge, OutOfBounds, ShapeMismatch, Overlap}
use Rattle.view.specs.declared.Trans.{Trans}
use Rattle.view.specs.declared.Side.{Side}
use Rattle.view.proofs.AnyLaws.{or-false-left, or-false-right, or-none, and_left, and_right}
use Rattle.view.specs.Refusals.{limit, too_large, out_of_bounds, overlaps, is_vector, vec_length}
use Rattle.view.specs.Steps.{Accepted}
use Rattle.view.specs.Judge.{Arg, any_of, refuse, judge}
use Rattle.view.specs.Checks.{op_rows, op_cols, order_of, shaped, vector_of, gemv_shape, trmv_shape, hemv_shape, gemm_shape, trmm_shape, symm_shape, syrk_shape, syr2k_shape}

abbrev pub Each : List Arg → Type 0
Each [] = Unit
Each (a ∷ rest) = Accepted a.view a.len × Each rest

pub record Passed (args : List Arg) (shapes : Bool) (target : View) : Type 0 where
  pub each : Each args
  pub shape : shapes ≡ true
  pub distinct : overlaps target ≡ false

pub small : (v : View) → too_large v ≡ false → (v.rows ≤ limit) × (v.cols ≤ limit)
unfolding too_large
small v h = (
  ltb-false limit v.rows (or-false-left (ltb limit v.rows) (ltb limit v.cols) h),
  ltb-false limit v.cols (or-false-right (ltb limit v.rows) (ltb limit v.cols) h),
)

pub not-large : (v : View) → v.rows ≤ limit → v.cols ≤ limit → too_large v ≡ false
unfolding too_large
not-large v p q = or-none (ltb limit v.rows) (ltb limit v.cols) (le-ltb limit v.rows p) (le-ltb limit v.cols q)

abbrev large : Arg → Bool
large a = too_large a.view

abbrev off : Arg → Bool
off a = out_of_bounds a.view a.len

each_of : (args : List Arg) → any_of large args ≡ false → any_of off args ≡ false → Each args
each_of [] h g = tt
each_of (a ∷ rest) h g =
    let s = small a.view (or-false-left (large a) (any_of large rest) h) in (
      record { rows-le = s.0; cols-le = s.1; fits = or-false-left (off a) (any_of off rest) g },
      each_of rest (or-false-right (large a) (any_of large rest) h) (or-false-right (off a) (any_of off rest) g),
    )

none-large : (args : List Arg) → Each args → any_of large args ≡ false
none-large [] e = refl
none-large (a ∷ rest) e =
    or-none (large a) (any_of large rest) (not-large a.view e.0.rows-le e.0.cols-le) (none-large rest e.1)

none-off : (args : List Arg) → Each args → any_of off args ≡ false
none-off [] e = refl
none-off (a ∷ rest) e = or-none (off a) (any_of off rest) e.0.fits (none-off rest e.1)

-- the refusal was not met
passed-by : (b : Bool) (a later : Answer) → (a ≡ Done → ⊥) → refuse b a later ≡ Done → (b ≡ false) × (later ≡ Done)
passed-by true a later f h = absurd (f h)
passed-by false a later f h = (refl, h)

large≢done : TooLarge ≡ Done → ⊥
large≢done h = let z : ◌≡◌ {A = ℕ} 0 1 = cc in omega arith

off≢done : OutOfBounds ≡ Done → ⊥
off≢done h = let z : ◌≡◌ {A = ℕ} 0 1 = cc in omega arith

shape≢done : ShapeMismatch ≡ Done → ⊥
shape≢done h = let z : ◌≡◌ {A = ℕ} 0 1 = cc in omega arith

overlap≢done : Overlap ≡ Done → ⊥
overlap≢done h = let z : ◌≡◌ {A = ℕ} 0 1 = cc in omega arith

pub judge-passed : (args : List Arg) (shapes : Bool) (target : View) → judge args shapes target ≡ Done → Passed args shapes target
unfolding judge
judge-passed args shapes target h =
    let after-shape = refuse (overlaps target) Overlap Done in
    let after-off = refuse (not shapes) ShapeMismatch after-shape in
    let p = passed-by (any_of large args) TooLarge (refuse (any_of off args) OutOfBounds after-off) large≢done h in
    let q = passed-by (any_of off args) OutOfBounds after-off off≢done p.1 in
    let r = passed-by (not shapes) ShapeMismatch after-shape shape≢done q.1 in
    let s = passed-by (overlaps target) Overlap Done overlap≢done r.1 in
    record { each = each_of args p.0 q.0; shape = not-false shapes r.0; distinct = s.0 }

pub passed-judge : (args : List Arg) (shapes : Bool) (target : View) → Passed args shapes target → judge args shapes target ≡ Done
unfolding judge
passed-judge args shapes target p =
    ap (λ (b : Bool). refuse b TooLarge (refuse (any_of off args) OutOfBounds (refuse (not shapes) ShapeMismatch (refuse (overlaps target) Overlap Done)))) (none-large args p.each)
    ∙ ap (λ (b : Bool). refuse b OutOfBounds (refuse (not shapes) ShapeMismatch (refuse (overlaps target) Overlap Done))) (none-off args p.each)
    ∙ ap (λ (b : Bool). refuse (not b) ShapeMismatch (refuse (overlaps target) Overlap Done)) p.shape
    ∙ ap (λ (b : Bool). refuse b Overlap Done) p.distinct

-- ---- the sizes that each shape rule gives

pub shaped-sizes : (v : View) (m n : ℕ) → shaped v m n ≡ true → (v.rows ≡ m) × (v.cols ≡ n)
shaped-sizes v m n h = (
  eqb-true v.rows m (and_left (eqb v.rows m) (eqb v.cols n) h),
  eqb-true v.cols n (and_right (eqb v.rows m) (eqb v.cols n) h),
)

pub record Vector (v : View) (n : ℕ) : Type 0 where
  pub shape : vector_of v n ≡ true
  pub vector : is_vector v ≡ true
  pub length : vec_length v ≡ n

pub vector-sizes : (v : View) (n : ℕ) → vector_of v n ≡ true → Vector v n
unfolding vector_of
vector-sizes v n h = record {
  shape = h;
  vector = and_left (is_vector v) (eqb (vec_length v) n) h;
  length = eqb-true (vec_length v) n (and_right (is_vector v) (eqb (vec_length v) n) h);
}

pub gemv-sizes : (t : Trans) (a x y : View) → gemv_shape t a x y ≡ true → Vector x (op_cols t a) × Vector y (op_rows t a)
unfolding gemv_shape
gemv-sizes t a x y h =
    let p = vector_of x (op_cols t a) in
    let q = vector_of y (op_rows t a) in
    (vector-sizes x (op_cols t a) (and_left p q h), vector-sizes y (op_rows t a) (and_right p q h))

pub trmv-sizes : (a x : View) → trmv_shape a x ≡ true → (a.cols ≡ a.rows) × Vector x a.rows
unfolding trmv_shape
trmv-sizes a x h =
    let p = shaped a a.rows a.rows in
    let q = vector_of x a.rows in
    ((shaped-sizes a a.rows a.rows (and_left p q h)).1, vector-sizes x a.rows (and_right p q h))

pub hemv-sizes : (a x y : View) → hemv_shape a x y ≡ true → (a.cols ≡ a.rows) × Vector x a.rows × Vector y a.rows
unfolding hemv_shape
hemv-sizes a x y h =
    let p = trmv_shape a x in
    let q = vector_of y a.rows in
    let w = trmv-sizes a x (and_left p q h) in
    (w.0, w.1, vector-sizes y a.rows (and_right p q h))

pub gemm-sizes : (ta tb : Trans) (a b c : View) → gemm_shape ta tb a b c ≡ true → (op_cols ta a ≡ op_rows tb b) × (c.rows ≡ op_rows ta a) × (c.cols ≡ op_cols tb b)
unfolding gemm_shape
gemm-sizes ta tb a b c h =
    let p = eqb (op_cols ta a) (op_rows tb b) in
    let q = shaped c (op_rows ta a) (op_cols tb b) in
    let w = shaped-sizes c (op_rows ta a) (op_cols tb b) (and_right p q h) in
    (eqb-true (op_cols ta a) (op_rows tb b) (and_left p q h), w.0, w.1)

pub trmm-sizes : (side : Side) (a b : View) → trmm_shape side a b ≡ true → (a.rows ≡ order_of side b) × (a.cols ≡ order_of side b)
unfolding trmm_shape
trmm-sizes side a b h = shaped-sizes a (order_of side b) (order_of side b) h

pub symm-sizes : (side : Side) (a b c : View) → symm_shape side a b c ≡ true → (a.rows ≡ order_of side c) × (a.cols ≡ order_of side c) × (b.rows ≡ c.rows) × (b.cols ≡ c.cols)
unfolding symm_shape
symm-sizes side a b c h =
    let p = trmm_shape side a c in
    let q = shaped b c.rows c.cols in
    let w = trmm-sizes side a c (and_left p q h) in
    let u = shaped-sizes b c.rows c.cols (and_right p q h) in
    (w.0, w.1, u.0, u.1)

pub syrk-sizes : (t : Trans) (a c : View) → syrk_shape t a c ≡ true → (c.rows ≡ op_rows t a) × (c.cols ≡ op_rows t a)
unfolding syrk_shape
syrk-sizes t a c h = shaped-sizes c (op_rows t a) (op_rows t a) h

pub syr2k-sizes : (t : Trans) (a b c : View) → syr2k_shape t a b c ≡ true → (b.rows ≡ a.rows) × (b.cols ≡ a.cols) × (c.rows ≡ op_rows t a) × (c.cols ≡ op_rows t a)
unfolding syr2k_shape
syr2k-sizes t a b c h =
    let p = shaped b a.rows a.cols in
    let q = syrk_shape t a c in
    let w = shaped-sizes b a.rows a.cols (and_left p q h) in
    let u = syrk-sizes t a c (and_right p q h) in
    (w.0, w.1, u.0, u.1)
