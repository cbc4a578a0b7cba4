-- The plan of each routine.
use Rattle.std.specs.Prelude.{ℕ, Bool, true, false, cond, not, List}
use Rattle.number.specs.Kind.{Kind}
use Rattle.view.specs.declared.View.{View}
use Rattle.view.specs.declared.Trans.{Trans}
use Rattle.view.specs.declared.Trans.TheVariants.{NoTrans}
use Rattle.view.specs.declared.Side.{Side}
use Rattle.view.specs.declared.Side.TheVariants.{Left, Right}
use Rattle.view.specs.declared.UpLo.{UpLo}
use Rattle.view.specs.declared.UpLo.TheVariants.{Upper, Lower}
use Rattle.view.specs.Place.{transposed_of, op_view_of, is_conj}
use Rattle.view.specs.Checks.{op_cols}
use Rattle.view.specs.Vector.{column_of}
use Rattle.slabs.specs.Update.{everywhere, update}
use Rattle.blas.specs.Syrk.{syrk_left, syrk_right}
use Rattle.blas.specs.Herk.{herk_left, herk_right}
use Rattle.product_plan.specs.declared.plan.Factors.{Factors}
use Rattle.product_plan.specs.declared.plan.Turn.{Turn}
use Rattle.product_plan.specs.declared.plan.Turn.TheVariants.{AtRow, PastRow, AtCol, PastCol}
use Rattle.product_plan.specs.declared.plan.Plan.{Plan}
use Rattle.product_plan.specs.declared.plan.Folded.{Folded}
use Rattle.product_plan.specs.Plan.{folded_change, FoldedReady, ByRow}

-- ---- op(A) op(B)

abbrev pub op_factors : Trans → Trans → View → View → Factors
op_factors ta tb a b = record { left = op_view_of ta a; left_conj = is_conj ta; right = op_view_of tb b; right_conj = is_conj tb }

abbrev pub op_plan : Trans → Trans → View → View → ℕ → View → Plan
op_plan ta tb a b n c = record { factors = op_factors ta tb a b; terms = n; target = c }

abbrev pub gemm_plan : Trans → Trans → View → View → View → Plan
gemm_plan ta tb a b c = op_plan ta tb a b (op_cols ta a) c

-- a vector is a matrix of one column
abbrev pub gemv_plan : Trans → View → View → View → Plan
gemv_plan t a x y = gemm_plan t NoTrans a (column_of x) (column_of y)

-- the same, of the views of op(A) and op(B) and whether they conjugate
abbrev pub turned_plan : Bool → View → Bool → View → View → Plan
turned_plan ca a cb b c = record { factors = record { left = a; left_conj = ca; right = b; right_conj = cb }; terms = a.cols; target = c }

abbrev pub column_plan : Bool → View → View → View → Plan
column_plan conj a x y = turned_plan conj a false (column_of x) (column_of y)

abbrev pub syrk_plan : Trans → View → View → Plan
syrk_plan t a c = op_plan (syrk_left t) (syrk_right t) a a (op_cols t a) c

abbrev pub herk_plan : Trans → View → View → Plan
herk_plan t a c = op_plan (herk_left t) (herk_right t) a a (op_cols t a) c

-- ---- A, of which the named triangle is read, on a side of B: an element outside the triangle is its mirror image, conjugated or not

abbrev pub left_factors : Bool → Bool → View → View → Factors
left_factors mirrored conj a b =
    cond mirrored
    (record { left = transposed_of a; left_conj = conj; right = b; right_conj = false })
    (record { left = a; left_conj = false; right = b; right_conj = false })

abbrev pub right_factors : Bool → Bool → View → View → Factors
right_factors mirrored conj a b =
    cond mirrored
    (record { left = b; left_conj = false; right = transposed_of a; right_conj = conj })
    (record { left = b; left_conj = false; right = a; right_conj = false })

abbrev pub is_upper : UpLo → Bool
is_upper Upper = true
is_upper Lower = false

-- row i of A leaves a triangle at the diagonal or past it, column j of A the other way round
abbrev pub row_turn : UpLo → Turn
row_turn Upper = AtRow
row_turn Lower = PastRow

abbrev pub col_turn : UpLo → Turn
col_turn Upper = PastCol
col_turn Lower = AtCol

abbrev pub left_plan : Bool → UpLo → View → View → ℕ → View → Folded
left_plan conj uplo a b n c =
    record { turn = row_turn uplo; head = left_factors (is_upper uplo) conj a b; tail = left_factors (not (is_upper uplo)) conj a b; terms = n; target = c }

abbrev pub right_plan : Bool → UpLo → View → View → ℕ → View → Folded
right_plan conj uplo a b n c =
    record { turn = col_turn uplo; head = right_factors (not (is_upper uplo)) conj a b; tail = right_factors (is_upper uplo) conj a b; terms = n; target = c }

-- ---- the same with one triangle alone: A's lower triangle is the upper one of its transpose

abbrev pub upper_of : UpLo → View → View
upper_of Upper a = a
upper_of Lower a = transposed_of a

-- the turns of the plans of an upper triangle
abbrev pub left_turn : Turn
left_turn = AtRow

abbrev pub right_turn : Turn
right_turn = PastCol

-- A on the left or not
abbrev pub upper_turn : Bool → Turn
upper_turn left = cond left left_turn right_turn

abbrev pub is_left : Side → Bool
is_left Left = true
is_left Right = false

-- on the right the transposed call, of which element (j, i) is the call's (i, j)
abbrev pub element_plan : Side → View → View → View → Folded
element_plan Left u b c = left_plan false Upper u b c.rows c
element_plan Right u b c = left_plan false Upper u (transposed_of b) c.cols (transposed_of c)

abbrev pub hemv_plan : UpLo → View → View → View → Folded
hemv_plan uplo a x y = left_plan true uplo a (column_of x) a.rows (column_of y)

-- ---- the slabs change places with the operands

abbrev pub sided_work : (K : Kind) → Side → Bool → UpLo → View → View → View → (K.Elem → K.Elem) → (K.Elem → K.Elem)
    → List K.Cell → List K.Cell → List K.Cell → List K.Cell
sided_work K Left conj uplo va vb vc by_beta by_alpha a b c =
    update K vc everywhere (folded_change K (left_plan conj uplo va vb vc.rows vc) by_beta by_alpha a b) c
sided_work K Right conj uplo va vb vc by_beta by_alpha a b c =
    update K vc everywhere (folded_change K (right_plan conj uplo va vb vc.cols vc) by_beta by_alpha b a) c

abbrev pub ReadySided : Side → Bool → UpLo → View → ℕ → View → ℕ → View → ℕ → Type 0
ReadySided Left conj uplo va la vb lb vc lc = FoldedReady (left_plan conj uplo va vb vc.rows vc) la lb lc × ByRow (left_plan conj uplo va vb vc.rows vc)
ReadySided Right conj uplo va la vb lb vc lc = FoldedReady (right_plan conj uplo va vb vc.cols vc) lb la lc
