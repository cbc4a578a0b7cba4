-- The laws of gemv's and gemm's quick tests, which are of the views of op(A) and op(B): the call on A and B is not refused.
use mathlib.Core.Path.{◌≡◌, refl, sym, ◌∙◌}
use mathlib.Core.Bool.{true, ◌&&◌}
use Prim.Native.Nat.{ℕ}
use lib.Dec.{eqb}
use Rattle.view.specs.declared.View.{View}
use Rattle.view.specs.declared.Answer.TheVariants.{Done}
use Rattle.view.specs.declared.Trans.{Trans}
use Rattle.view.specs.declared.Trans.TheVariants.{NoTrans, Trans as Transposed, ConjTrans}
use Rattle.view.specs.Place.{transposed_of, op_view_of}
use Rattle.view.proofs.TransposeLaws.{transposed-accepted}
use Rattle.view.specs.Steps.{Accepted}
use Rattle.view.proofs.JudgeLaws.{judge-passed}
use Rattle.view.specs.Checks.{op_rows, op_cols, vector_of, gemv_shape, gemm_shape, gemv_check, gemm_check}
use Rattle.call_check.specs.Quick.{quick_gemv, quick_gemm}
use Rattle.call_check.proofs.Passes.{pass3, quick-gemv-passes, quick-hemv-passes, quick-her-passes, quick-her2-passes, quick-trmv-passes, quick-gemm-passes, quick-symm-passes, quick-syrk-passes, quick-syr2k-passes, quick-trmm-passes}

op-rows-are : (t : Trans) (a : View) → op_rows NoTrans (op_view_of t a) ≡ op_rows t a
op-rows-are NoTrans a = refl
op-rows-are Transposed a = refl
op-rows-are ConjTrans a = refl

op-cols-are : (t : Trans) (a : View) → op_cols NoTrans (op_view_of t a) ≡ op_cols t a
op-cols-are NoTrans a = refl
op-cols-are Transposed a = refl
op-cols-are ConjTrans a = refl

accepted-back : (t : Trans) (a : View) (len : ℕ) → Accepted (op_view_of t a) len → Accepted a len
accepted-back NoTrans a len p = p
accepted-back Transposed a len p = transposed-accepted (transposed_of a) len p
accepted-back ConjTrans a len p = transposed-accepted (transposed_of a) len p

shape_is : (ta tb : Trans) (a b c : View) → gemm_shape NoTrans NoTrans (op_view_of ta a) (op_view_of tb b) c ≡ gemm_shape ta tb a b c
unfolding gemm_shape
shape_is ta tb a b c i =
    eqb (op-cols-are ta a i) (op-rows-are tb b i) && (eqb c.rows (op-rows-are ta a i) && eqb c.cols (op-cols-are tb b i))

pub quick-gemm-passes-op : (ta tb : Trans) (a : View) (la : ℕ) (b : View) (lb : ℕ) (c : View) (lc : ℕ) → quick_gemm (op_view_of ta a) la (op_view_of tb b) lb c lc ≡ true → gemm_check ta tb a la b lb c lc ≡ Done
quick-gemm-passes-op ta tb a la b lb c lc h =
    let p = judge-passed _ _ _ (quick-gemm-passes (op_view_of ta a) la (op_view_of tb b) lb c lc h) in
    pass3 a la b lb c lc (sym (shape_is ta tb a b c) ∙ p.shape) (accepted-back ta a la p.each.0) (accepted-back tb b lb p.each.1.0) p.each.1.1.0 p.distinct

gemv-shape-is : (t : Trans) (a x y : View) → gemv_shape NoTrans (op_view_of t a) x y ≡ gemv_shape t a x y
unfolding gemv_shape
gemv-shape-is t a x y i = vector_of x (op-cols-are t a i) && vector_of y (op-rows-are t a i)

pub quick-gemv-passes-op : (t : Trans) (a : View) (la : ℕ) (x : View) (lx : ℕ) (y : View) (ly : ℕ) → quick_gemv (op_view_of t a) la x lx y ly ≡ true → gemv_check t a la x lx y ly ≡ Done
quick-gemv-passes-op t a la x lx y ly h =
    let p = judge-passed _ _ _ (quick-gemv-passes (op_view_of t a) la x lx y ly h) in
    pass3 a la x lx y ly (sym (gemv-shape-is t a x y) ∙ p.shape) (accepted-back t a la p.each.0) p.each.1.0 p.each.1.1.0 p.distinct

-- the laws of all quick tests
pub ruleset passes = (quick-gemv-passes-op, quick-hemv-passes, quick-her-passes, quick-her2-passes, quick-trmv-passes, quick-gemm-passes-op, quick-symm-passes, quick-syrk-passes, quick-syr2k-passes, quick-trmm-passes)
