-- Document 01's worked examples w1 to w14: a field each, under its number.
use Rattle.std.specs.Prelude.{ℕ, List, [], ◌∷◌, map, ◌≡◌, Float, pos, negsuc}
use Rattle.std.specs.Float.{binary64, nan}
use Rattle.std.specs.Float.Ieee.{neg, of_int}
use Rattle.number.specs.Kind.{Kind, real64, complex}
use Rattle.view.specs.declared.Side.TheVariants.{Left, Right}
use Rattle.view.specs.declared.Trans.{Trans}
use Rattle.view.specs.declared.Trans.TheVariants.{NoTrans, ConjTrans}
use Rattle.view.specs.declared.UpLo.{UpLo}
use Rattle.view.specs.declared.UpLo.TheVariants.{Upper, Lower}
use Rattle.view.specs.declared.Diag.TheVariants.{NonUnit, Unit}
use Rattle.view.specs.Place.{place}
use Rattle.view.specs.Checks.{read_check}
use Rattle.view.specs.declared.Answer.TheVariants.{Done}
use Rattle.slabs.specs.Elem.{Lent, lent}
use Rattle.blas.specs.Matrix.{matrix}
use Rattle.blas.specs.Outcome.{Outcome}
use Rattle.blas.specs.Gemv.{gemv}
use Rattle.blas.specs.Gemm.{gemm}
use Rattle.blas.specs.Symm.{symm}
use Rattle.blas.specs.Syrk.{syrk}
use Rattle.blas.specs.Her.{her}
use Rattle.blas.specs.Trmv.{trmv}
use Rattle.blas.specs.Trsv.{trsv}
use Rattle.blas.specs.Trsm.{trsm}

-- ---- how a row writes numbers, matrices and outcomes

-- a whole number, and a negative one
abbrev pub f : ℕ → Float
f n = of_int binary64 (pos n)

abbrev pub minus : ℕ → Float
minus n = neg (f n)

-- an m by n matrix by rows from the slab's start
abbrev pub by_rows : ℕ → ℕ → List Float → Lent real64
by_rows m n s = lent real64 s (record { start = 0; rows = m; cols = n; rs = pos n; cs = pos 1 })

-- one complex number, as a 1 by 1 matrix
abbrev pub single : Float → Float → Lent complex
single x y = lent complex (x ∷ y ∷ []) (record { start = 0; rows = 1; cols = 1; rs = pos 1; cs = pos 1 })

abbrev pub outcome_of : (K : Kind) → ℕ → List K.Cell → Outcome K
outcome_of K n s = record { answer = n; slab = s }

-- A = [[1,2],[3,4]]
abbrev pub A : Lent real64
A = by_rows 2 2 (f 1 ∷ f 2 ∷ f 3 ∷ f 4 ∷ [])

-- w1's view of the slab (1, 2, 3)
abbrev pub reversed : Lent real64
reversed = lent real64 (f 1 ∷ f 2 ∷ f 3 ∷ []) (record { start = 2; rows = 3; cols = 1; rs = negsuc 0; cs = pos 1 })

-- w2's target: 2 rows and 3 columns with strides n and 1
abbrev pub target : ℕ → Lent real64
target n = lent real64 (f 0 ∷ f 0 ∷ f 0 ∷ f 0 ∷ f 0 ∷ f 0 ∷ []) (record { start = 0; rows = 2; cols = 3; rs = pos n; cs = pos 1 })

-- a matrix of no elements
abbrev pub empty : ℕ → ℕ → Lent real64
empty m n = by_rows m n []

-- ---- the table

pub record WorkedExamples : Type 0 where
  -- slab (1, 2, 3), start 2, 3 rows, 1 column, row stride −1 is a view that may be read, and shows 3, 2, 1
  pub w1-read : read_check reversed.view 3 ≡ Done
  pub w1 : map {B = Float} (λ r. matrix real64 reversed r 0) (0 ∷ 1 ∷ 2 ∷ []) ≡ f 3 ∷ f 2 ∷ f 1 ∷ []
  -- a target of 2 rows and 3 columns with strides 2 and 1 has (0,2) and (1,0) on one place and is refused with 4; with strides 3 and 1 it passes
  pub w2-shared : place (target 2).view 0 2 ≡ place (target 2).view 1 0
  pub w2 : gemm real64 NoTrans NoTrans (f 1) (empty 2 0) (empty 0 3) (f 1) (target 2) ≡ outcome_of real64 4 (target 2).slab
  pub w2-passes : (gemm real64 NoTrans NoTrans (f 1) (empty 2 0) (empty 0 3) (f 1) (target 3)).answer ≡ 0
  -- gemv NoTrans, x (1,1), alpha 2, beta 0, y (NaN,5): (6,14)
  pub w3 : gemv real64 NoTrans (f 2) A (by_rows 2 1 (f 1 ∷ f 1 ∷ [])) (f 0) (by_rows 2 1 (nan ∷ f 5 ∷ [])) ≡ outcome_of real64 0 (f 6 ∷ f 14 ∷ [])
  -- with beta 1 and y (1,1): (7,15)
  pub w4 : gemv real64 NoTrans (f 2) A (by_rows 2 1 (f 1 ∷ f 1 ∷ [])) (f 1) (by_rows 2 1 (f 1 ∷ f 1 ∷ [])) ≡ outcome_of real64 0 (f 7 ∷ f 15 ∷ [])
  -- gemm of a 2 by 0 and a 0 by 2 matrix, alpha 5, beta 3, C [[1,2],[3,4]]: [[3,6],[9,12]]
  pub w5 : gemm real64 NoTrans NoTrans (f 5) (empty 2 0) (empty 0 2) (f 3) A ≡ outcome_of real64 0 (f 3 ∷ f 6 ∷ f 9 ∷ f 12 ∷ [])
  -- symm Left Lower on [[1,99],[2,3]], B [[1],[0]], alpha 1, beta 0: [[1],[2]]
  pub w6 : symm real64 Left Lower (f 1) (by_rows 2 2 (f 1 ∷ f 99 ∷ f 2 ∷ f 3 ∷ [])) (by_rows 2 1 (f 1 ∷ f 0 ∷ [])) (f 0) (by_rows 2 1 (f 7 ∷ f 7 ∷ [])) ≡ outcome_of real64 0 (f 1 ∷ f 2 ∷ [])
  -- syrk Upper NoTrans, A [[1],[2]], alpha 1, beta 0, C all 9: [[1,2],[9,4]]
  pub w7 : syrk real64 Upper NoTrans (f 1) (by_rows 2 1 (f 1 ∷ f 2 ∷ [])) (f 0) (by_rows 2 2 (f 9 ∷ f 9 ∷ f 9 ∷ f 9 ∷ [])) ≡ outcome_of real64 0 (f 1 ∷ f 2 ∷ f 9 ∷ f 4 ∷ [])
  -- trmv Upper NoTrans NonUnit, [[2,3],[NaN,4]], x (1,1): (5,4)
  pub w8 : trmv real64 Upper NoTrans NonUnit (by_rows 2 2 (f 2 ∷ f 3 ∷ nan ∷ f 4 ∷ [])) (by_rows 2 1 (f 1 ∷ f 1 ∷ [])) ≡ outcome_of real64 0 (f 5 ∷ f 4 ∷ [])
  -- trsv Lower NoTrans Unit, [[0,7],[3,0]], x (2,7): (2,1)
  pub w9 : trsv real64 Lower NoTrans Unit (by_rows 2 2 (f 0 ∷ f 7 ∷ f 3 ∷ f 0 ∷ [])) (by_rows 2 1 (f 2 ∷ f 7 ∷ [])) ≡ outcome_of real64 0 (f 2 ∷ f 1 ∷ [])
  -- trsv Upper NoTrans NonUnit, [[0,1],[9,2]], x (5,4): refusal 5, x is (5,2)
  pub w10 : trsv real64 Upper NoTrans NonUnit (by_rows 2 2 (f 0 ∷ f 1 ∷ f 9 ∷ f 2 ∷ [])) (by_rows 2 1 (f 5 ∷ f 4 ∷ [])) ≡ outcome_of real64 5 (f 5 ∷ f 2 ∷ [])
  -- trsm Right Upper NoTrans NonUnit, alpha 2, [[1,1],[0,0]], B [[3,4]]: refusal 5, B is [[6,8]]
  pub w11 : trsm real64 Right Upper NoTrans NonUnit (f 2) (by_rows 2 2 (f 1 ∷ f 1 ∷ f 0 ∷ f 0 ∷ [])) (by_rows 1 2 (f 3 ∷ f 4 ∷ [])) ≡ outcome_of real64 5 (f 6 ∷ f 8 ∷ [])
  -- trsm Left NonUnit, A 2 by 2 all zero, B 2 by 0: answer 0, whatever the triangle, the transposition and alpha
  pub w12 : (uplo : UpLo) (trans : Trans) (alpha : Float) → trsm real64 Left uplo trans NonUnit alpha (by_rows 2 2 (f 0 ∷ f 0 ∷ f 0 ∷ f 0 ∷ [])) (empty 2 0) ≡ outcome_of real64 0 []
  -- complex gemv ConjTrans, 1 by 1, A (1,2), x (3,0), alpha 1, beta 0: (3,−6)
  pub w13 : gemv complex ConjTrans complex.one (single (f 1) (f 2)) (single (f 3) (f 0)) complex.zero (single nan nan) ≡ outcome_of complex 0 (f 3 ∷ minus 6 ∷ [])
  -- her Lower, a (1,5), x (1,1), alpha 2: (5,5); the diagonal's imaginary part stays
  pub w14 : her complex Lower (f 2) (single (f 1) (f 1)) (single (f 1) (f 5)) ≡ outcome_of complex 0 (f 5 ∷ f 5 ∷ [])
