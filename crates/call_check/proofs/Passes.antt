-- The laws of the quick tests: a call that one of them passes is not refused.
use mathlib.Core.Path.{◌≡◌, refl}
use mathlib.Core.Bool.{Bool, true, false}
use mathlib.Core.List.{[], ◌∷◌}
use Prim.Native.Nat.{ℕ}
use lib.Dec.{eqb}
use borrow.Author.Tests.{eq-eqb}
use Rattle.view.specs.declared.View.{View}
use Rattle.view.specs.declared.Answer.TheVariants.{Done}
use Rattle.view.specs.declared.Trans.{Trans}
use Rattle.view.specs.declared.Trans.TheVariants.{NoTrans}
use Rattle.view.specs.declared.Side.{Side}
use Rattle.view.specs.Refusals.{overlaps}
use Rattle.view.proofs.AnyLaws.{and_both}
use Rattle.view.specs.Steps.{Accepted}
use Rattle.view.specs.Judge.{arg, judge}
use Rattle.view.proofs.JudgeLaws.{passed-judge}
use Rattle.view.specs.Checks.{shaped, vector_of, gemv_shape, trmv_shape, hemv_shape, gemm_shape, trmm_shape, symm_shape, syrk_shape, syr2k_shape, gemv_check, hemv_check, her_check, her2_check, trmv_check, gemm_check, symm_check, syrk_check, syr2k_check, trmm_check}
use Rattle.call_check.specs.Quick.{few, small, square, quick_gemv, quick_hemv, quick_her, quick_her2, quick_trmv, quick_gemm, quick_symm, quick_syrk, quick_syr2k, quick_trmm}
use Rattle.call_check.proofs.Runs.{each}
use Rattle.call_check.proofs.Sizes.{small-rows, small-cols, square-rows, square-is, square-small, gemm-left, gemm-right, trmm-left, symm-left, symm-right, syrk-target, syr2k-right, syr2k-target}
use Rattle.call_check.proofs.Views.{plain-accepted, written_is, vector-is, target_is}

pub pass2 : (a : View) (la : ℕ) (b : View) (lb : ℕ) {shapes : Bool} → shapes ≡ true → Accepted a la → Accepted b lb → overlaps b ≡ false → judge (arg a la ∷ arg b lb ∷ []) shapes b ≡ Done
pass2 a la b lb {shapes} s p q d =
    passed-judge (arg a la ∷ arg b lb ∷ []) shapes b (record { each = (p, (q, tt)); shape = s; distinct = d })

pub pass3 : (a : View) (la : ℕ) (b : View) (lb : ℕ) (c : View) (lc : ℕ) {shapes : Bool} → shapes ≡ true → Accepted a la → Accepted b lb → Accepted c lc → overlaps c ≡ false
    → judge (arg a la ∷ arg b lb ∷ arg c lc ∷ []) shapes c ≡ Done
pass3 a la b lb c lc {shapes} s p q r d =
    passed-judge (arg a la ∷ arg b lb ∷ arg c lc ∷ []) shapes c (record { each = (p, (q, (r, tt))); shape = s; distinct = d })

-- ---- a matrix and vectors

trmv-shape : (a x : View) → a.cols ≡ a.rows → vector_of x a.rows ≡ true → trmv_shape a x ≡ true
unfolding trmv_shape
trmv-shape a x e h =
    and_both (shaped a a.rows a.rows) (vector_of x a.rows)
    (and_both (eqb a.rows a.rows) (eqb a.cols a.rows) (eq-eqb a.rows a.rows refl) (eq-eqb a.cols a.rows e))
    h

hemv-shape : (a x y : View) → a.cols ≡ a.rows → vector_of x a.rows ≡ true → vector_of y a.rows ≡ true → hemv_shape a x y ≡ true
unfolding hemv_shape
hemv-shape a x y e h g = and_both (trmv_shape a x) (vector_of y a.rows) (trmv-shape a x e h) g

pub quick-gemv-passes : (a : View) (la : ℕ) (x : View) (lx : ℕ) (y : View) (ly : ℕ) → quick_gemv a la x lx y ly ≡ true → gemv_check NoTrans a la x lx y ly ≡ Done
unfolding quick_gemv gemv_shape
quick-gemv-passes a la x lx y ly h =
    let s : small a ≡ true = search each in
    let k = vector-is x a.cols lx (small-cols a s) (search each) in
    let t = target_is y a.rows ly (small-rows a s) (search each) in
    pass3 a la x lx y ly (and_both (vector_of x a.cols) (vector_of y a.rows) k.vector t.vector) (plain-accepted a la s (search each)) k.accepted t.accepted t.distinct

pub quick-hemv-passes : (a : View) (la : ℕ) (x : View) (lx : ℕ) (y : View) (ly : ℕ) → quick_hemv a la x lx y ly ≡ true → hemv_check a la x lx y ly ≡ Done
unfolding quick_hemv
quick-hemv-passes a la x lx y ly h =
    let s : square a ≡ true = search each in
    let k = vector-is x a.rows lx (square-rows a s) (search each) in
    let t = target_is y a.rows ly (square-rows a s) (search each) in
    pass3 a la x lx y ly (hemv-shape a x y (square-is a s) k.vector t.vector) (plain-accepted a la (square-small a s) (search each)) k.accepted t.accepted t.distinct

pub quick-her-passes : (x : View) (lx : ℕ) (a : View) (la : ℕ) → quick_her x lx a la ≡ true → her_check x lx a la ≡ Done
unfolding quick_her
quick-her-passes x lx a la h =
    let s : square a ≡ true = search each in
    let k = vector-is x a.rows lx (square-rows a s) (search each) in
    let t = written_is a la (square-small a s) (search each) in
    pass2 x lx a la (trmv-shape a x (square-is a s) k.vector) k.accepted t.accepted t.distinct

pub quick-her2-passes : (x : View) (lx : ℕ) (y : View) (ly : ℕ) (a : View) (la : ℕ) → quick_her2 x lx y ly a la ≡ true → her2_check x lx y ly a la ≡ Done
unfolding quick_her2
quick-her2-passes x lx y ly a la h =
    let s : square a ≡ true = search each in
    let k = vector-is x a.rows lx (square-rows a s) (search each) in
    let l = vector-is y a.rows ly (square-rows a s) (search each) in
    let t = written_is a la (square-small a s) (search each) in
    pass3 x lx y ly a la (hemv-shape a x y (square-is a s) k.vector l.vector) k.accepted l.accepted t.accepted t.distinct

pub quick-trmv-passes : (a : View) (la : ℕ) (x : View) (lx : ℕ) → quick_trmv a la x lx ≡ true → trmv_check a la x lx ≡ Done
unfolding quick_trmv
quick-trmv-passes a la x lx h =
    let s : square a ≡ true = search each in
    let t = target_is x a.rows lx (square-rows a s) (search each) in
    pass2 a la x lx (trmv-shape a x (square-is a s) t.vector) (plain-accepted a la (square-small a s) (search each)) t.accepted t.distinct

-- ---- matrices

pub quick-gemm-passes : (a : View) (la : ℕ) (b : View) (lb : ℕ) (c : View) (lc : ℕ) → quick_gemm a la b lb c lc ≡ true → gemm_check NoTrans NoTrans a la b lb c lc ≡ Done
unfolding quick_gemm
quick-gemm-passes a la b lb c lc h =
    let s : small c ≡ true = search each in
    let k : few a.cols ≡ true = search each in
    let e : gemm_shape NoTrans NoTrans a b c ≡ true = search each in
    let t = written_is c lc s (search each) in
    pass3 a la b lb c lc e (plain-accepted a la (gemm-left a b c e k s) (search each)) (plain-accepted b lb (gemm-right a b c e k s) (search each)) t.accepted t.distinct

pub quick-symm-passes : (side : Side) (a : View) (la : ℕ) (b : View) (lb : ℕ) (c : View) (lc : ℕ) → quick_symm side a la b lb c lc ≡ true → symm_check side a la b lb c lc ≡ Done
unfolding quick_symm
quick-symm-passes side a la b lb c lc h =
    let s : small c ≡ true = search each in
    let e : symm_shape side a b c ≡ true = search each in
    let t = written_is c lc s (search each) in
    pass3 a la b lb c lc e (plain-accepted a la (symm-left side a b c e s) (search each)) (plain-accepted b lb (symm-right side a b c e s) (search each)) t.accepted t.distinct

pub quick-syrk-passes : (t : Trans) (a : View) (la : ℕ) (c : View) (lc : ℕ) → quick_syrk t a la c lc ≡ true → syrk_check t a la c lc ≡ Done
unfolding quick_syrk
quick-syrk-passes t a la c lc h =
    let s : small a ≡ true = search each in
    let e : syrk_shape t a c ≡ true = search each in
    let w = written_is c lc (syrk-target t a c e s) (search each) in
    pass2 a la c lc e (plain-accepted a la s (search each)) w.accepted w.distinct

pub quick-syr2k-passes : (t : Trans) (a : View) (la : ℕ) (b : View) (lb : ℕ) (c : View) (lc : ℕ) → quick_syr2k t a la b lb c lc ≡ true → syr2k_check t a la b lb c lc ≡ Done
unfolding quick_syr2k
quick-syr2k-passes t a la b lb c lc h =
    let s : small a ≡ true = search each in
    let e : syr2k_shape t a b c ≡ true = search each in
    let w = written_is c lc (syr2k-target t a b c e s) (search each) in
    pass3 a la b lb c lc e (plain-accepted a la s (search each)) (plain-accepted b lb (syr2k-right t a b c e s) (search each)) w.accepted w.distinct

pub quick-trmm-passes : (side : Side) (a : View) (la : ℕ) (b : View) (lb : ℕ) → quick_trmm side a la b lb ≡ true → trmm_check side a la b lb ≡ Done
unfolding quick_trmm
quick-trmm-passes side a la b lb h =
    let s : small b ≡ true = search each in
    let e : trmm_shape side a b ≡ true = search each in
    let t = written_is b lb s (search each) in
    pass2 a la b lb e (plain-accepted a la (trmm-left side a b e s) (search each)) t.accepted t.distinct
