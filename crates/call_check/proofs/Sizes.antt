-- The sizes that a shape rule ties to others: a view that has a few rows and columns gives the same of the views beside it.
use mathlib.Core.Path.{◌≡◌, refl, sym, ◌∙◌, ap}
use mathlib.Core.Bool.{true}
use Prim.Native.Nat.{ℕ}
use lib.Dec.{eqb}
use borrow.Author.Tests.{eqb-true}
use Rattle.view.specs.declared.View.{View}
use Rattle.view.specs.declared.Trans.{Trans}
use Rattle.view.specs.declared.Trans.TheVariants.{NoTrans, Trans as Transposed, ConjTrans}
use Rattle.view.specs.declared.Side.{Side}
use Rattle.view.specs.declared.Side.TheVariants.{Left, Right}
use Rattle.view.proofs.AnyLaws.{and_left, and_right, and_both}
use Rattle.view.specs.Checks.{op_rows, order_of, gemm_shape, trmm_shape, symm_shape, syrk_shape, syr2k_shape}
use Rattle.view.proofs.JudgeLaws.{gemm-sizes, trmm-sizes, symm-sizes, syrk-sizes, syr2k-sizes}
use Rattle.call_check.specs.Quick.{few, small, square}

pub small-rows : (v : View) → small v ≡ true → few v.rows ≡ true
unfolding small
small-rows v h = and_left (few v.rows) (few v.cols) h

pub small-cols : (v : View) → small v ≡ true → few v.cols ≡ true
unfolding small
small-cols v h = and_right (few v.rows) (few v.cols) h

sized : (v : View) (m n : ℕ) → v.rows ≡ m → v.cols ≡ n → few m ≡ true → few n ≡ true → small v ≡ true
unfolding small
sized v m n p q h g = and_both (few v.rows) (few v.cols) (ap few p ∙ h) (ap few q ∙ g)

-- ---- a square matrix

pub square-rows : (a : View) → square a ≡ true → few a.rows ≡ true
unfolding square
square-rows a h = and_left (few a.rows) (eqb a.cols a.rows) h

pub square-is : (a : View) → square a ≡ true → a.cols ≡ a.rows
unfolding square
square-is a h = eqb-true a.cols a.rows (and_right (few a.rows) (eqb a.cols a.rows) h)

pub square-small : (a : View) → square a ≡ true → small a ≡ true
square-small a h = sized a a.rows a.rows refl (square-is a h) (square-rows a h) (square-rows a h)

-- ---- the rows of op(A), and the order of a matrix that multiplies b on a side

op-few : (t : Trans) (a : View) → small a ≡ true → few (op_rows t a) ≡ true
op-few NoTrans a h = small-rows a h
op-few Transposed a h = small-cols a h
op-few ConjTrans a h = small-cols a h

order-few : (side : Side) (b : View) → small b ≡ true → few (order_of side b) ≡ true
order-few Left b h = small-rows b h
order-few Right b h = small-cols b h

-- ---- the shape rules

pub gemm-left : (a b c : View) → gemm_shape NoTrans NoTrans a b c ≡ true → few a.cols ≡ true → small c ≡ true → small a ≡ true
gemm-left a b c h k s =
    sized a c.rows a.cols (sym (gemm-sizes NoTrans NoTrans a b c h).1) refl (small-rows c s) k

pub gemm-right : (a b c : View) → gemm_shape NoTrans NoTrans a b c ≡ true → few a.cols ≡ true → small c ≡ true → small b ≡ true
gemm-right a b c h k s =
    let z = gemm-sizes NoTrans NoTrans a b c h in sized b a.cols c.cols (sym z.0) (sym z.2) k (small-cols c s)

pub trmm-left : (side : Side) (a b : View) → trmm_shape side a b ≡ true → small b ≡ true → small a ≡ true
trmm-left side a b h s =
    let z = trmm-sizes side a b h in
    let n = order-few side b s in
    sized a (order_of side b) (order_of side b) z.0 z.1 n n

pub symm-left : (side : Side) (a b c : View) → symm_shape side a b c ≡ true → small c ≡ true → small a ≡ true
symm-left side a b c h s =
    let z = symm-sizes side a b c h in
    let n = order-few side c s in
    sized a (order_of side c) (order_of side c) z.0 z.1 n n

pub symm-right : (side : Side) (a b c : View) → symm_shape side a b c ≡ true → small c ≡ true → small b ≡ true
symm-right side a b c h s =
    let z = symm-sizes side a b c h in sized b c.rows c.cols z.2 z.3 (small-rows c s) (small-cols c s)

pub syrk-target : (t : Trans) (a c : View) → syrk_shape t a c ≡ true → small a ≡ true → small c ≡ true
syrk-target t a c h s =
    let z = syrk-sizes t a c h in
    let n = op-few t a s in
    sized c (op_rows t a) (op_rows t a) z.0 z.1 n n

pub syr2k-right : (t : Trans) (a b c : View) → syr2k_shape t a b c ≡ true → small a ≡ true → small b ≡ true
syr2k-right t a b c h s =
    let z = syr2k-sizes t a b c h in sized b a.rows a.cols z.0 z.1 (small-rows a s) (small-cols a s)

pub syr2k-target : (t : Trans) (a b c : View) → syr2k_shape t a b c ≡ true → small a ≡ true → small c ≡ true
syr2k-target t a b c h s =
    let z = syr2k-sizes t a b c h in
    let n = op-few t a s in
    sized c (op_rows t a) (op_rows t a) z.2 z.3 n n

-- ---- what a quick test asks of the sizes, where an earlier part of it has passed

pub ruleset sizes = (small-rows, small-cols, square-rows, square-small)

pub ruleset beside = (gemm-left, gemm-right, trmm-left, symm-left, symm-right, syrk-target, syr2k-right, syr2k-target)
