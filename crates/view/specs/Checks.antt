-- Each routine's shape rule from the BLAS papers, and its check: its views in the Rust's argument order, the rule, the target.
use Rattle.std.specs.Prelude.{Bool, true, ◌&&◌, [], ◌∷◌, ℕ, eqb, pos}
use Rattle.view.specs.declared.View.{View}
use Rattle.view.specs.declared.Answer.{Answer}
use Rattle.view.specs.declared.Trans.{Trans}
use Rattle.view.specs.declared.Trans.TheVariants.{NoTrans, Trans as Transposed, ConjTrans}
use Rattle.view.specs.declared.Side.{Side}
use Rattle.view.specs.declared.Side.TheVariants.{Left, Right}
use Rattle.view.specs.Refusals.{is_vector, vec_length}
use Rattle.view.specs.Judge.{arg, judge}

-- the rows and the columns of op(A)
abbrev pub op_rows : Trans → View → ℕ
op_rows NoTrans a = a.rows
op_rows Transposed a = a.cols
op_rows ConjTrans a = a.cols

abbrev pub op_cols : Trans → View → ℕ
op_cols NoTrans a = a.cols
op_cols Transposed a = a.rows
op_cols ConjTrans a = a.rows

-- the order of a square matrix that multiplies b on a side
abbrev pub order_of : Side → View → ℕ
order_of Left b = b.rows
order_of Right b = b.cols

-- a matrix of m rows and n columns
abbrev pub shaped : View → ℕ → ℕ → Bool
shaped v m n = eqb v.rows m && eqb v.cols n

-- a vector of length n
unfoldable pub vector_of : View → ℕ → Bool
vector_of v n = is_vector v && eqb (vec_length v) n

-- y ← op(A) x: op(A) is m by n, x has length n, y has length m
unfoldable pub gemv_shape : Trans → View → View → View → Bool
gemv_shape t a x y = vector_of x (op_cols t a) && vector_of y (op_rows t a)

-- A is square, and x has its order as length
unfoldable pub trmv_shape : View → View → Bool
trmv_shape a x = shaped a a.rows a.rows && vector_of x a.rows

-- A is square, and x and y have its order as length
unfoldable pub hemv_shape : View → View → View → Bool
hemv_shape a x y = trmv_shape a x && vector_of y a.rows

-- C ← op(A) op(B): op(A) is m by k, op(B) is k by n, C is m by n
unfoldable pub gemm_shape : Trans → Trans → View → View → View → Bool
gemm_shape ta tb a b c = eqb (op_cols ta a) (op_rows tb b) && shaped c (op_rows ta a) (op_cols tb b)

-- B ← A B or B A, A square
unfoldable pub trmm_shape : Side → View → View → Bool
trmm_shape side a b = shaped a (order_of side b) (order_of side b)

-- C ← A B or B A, A square, B of C's shape
unfoldable pub symm_shape : Side → View → View → View → Bool
symm_shape side a b c = trmm_shape side a c && shaped b c.rows c.cols

-- C ← op(A) op(A)ᵀ: op(A) is n by k, C is square of order n
unfoldable pub syrk_shape : Trans → View → View → Bool
syrk_shape t a c = shaped c (op_rows t a) (op_rows t a)

-- the same, with B of A's shape
unfoldable pub syr2k_shape : Trans → View → View → View → Bool
syr2k_shape t a b c = shaped b a.rows a.cols && syrk_shape t a c

abbrev pub gemv_check : Trans → View → ℕ → View → ℕ → View → ℕ → Answer
gemv_check t a la x lx y ly = judge (arg a la ∷ arg x lx ∷ arg y ly ∷ []) (gemv_shape t a x y) y

abbrev pub hemv_check : View → ℕ → View → ℕ → View → ℕ → Answer
hemv_check a la x lx y ly = judge (arg a la ∷ arg x lx ∷ arg y ly ∷ []) (hemv_shape a x y) y

abbrev pub her_check : View → ℕ → View → ℕ → Answer
her_check x lx a la = judge (arg x lx ∷ arg a la ∷ []) (trmv_shape a x) a

abbrev pub her2_check : View → ℕ → View → ℕ → View → ℕ → Answer
her2_check x lx y ly a la = judge (arg x lx ∷ arg y ly ∷ arg a la ∷ []) (hemv_shape a x y) a

abbrev pub trmv_check : View → ℕ → View → ℕ → Answer
trmv_check a la x lx = judge (arg a la ∷ arg x lx ∷ []) (trmv_shape a x) x

abbrev pub trsv_check : View → ℕ → View → ℕ → Answer
trsv_check a la x lx = judge (arg a la ∷ arg x lx ∷ []) (trmv_shape a x) x

abbrev pub gemm_check : Trans → Trans → View → ℕ → View → ℕ → View → ℕ → Answer
gemm_check ta tb a la b lb c lc = judge (arg a la ∷ arg b lb ∷ arg c lc ∷ []) (gemm_shape ta tb a b c) c

abbrev pub symm_check : Side → View → ℕ → View → ℕ → View → ℕ → Answer
symm_check side a la b lb c lc = judge (arg a la ∷ arg b lb ∷ arg c lc ∷ []) (symm_shape side a b c) c

abbrev pub hemm_check : Side → View → ℕ → View → ℕ → View → ℕ → Answer
hemm_check side a la b lb c lc = judge (arg a la ∷ arg b lb ∷ arg c lc ∷ []) (symm_shape side a b c) c

abbrev pub syrk_check : Trans → View → ℕ → View → ℕ → Answer
syrk_check t a la c lc = judge (arg a la ∷ arg c lc ∷ []) (syrk_shape t a c) c

abbrev pub herk_check : Trans → View → ℕ → View → ℕ → Answer
herk_check t a la c lc = judge (arg a la ∷ arg c lc ∷ []) (syrk_shape t a c) c

abbrev pub syr2k_check : Trans → View → ℕ → View → ℕ → View → ℕ → Answer
syr2k_check t a la b lb c lc = judge (arg a la ∷ arg b lb ∷ arg c lc ∷ []) (syr2k_shape t a b c) c

abbrev pub her2k_check : Trans → View → ℕ → View → ℕ → View → ℕ → Answer
her2k_check t a la b lb c lc = judge (arg a la ∷ arg b lb ∷ arg c lc ∷ []) (syr2k_shape t a b c) c

abbrev pub trmm_check : Side → View → ℕ → View → ℕ → Answer
trmm_check side a la b lb = judge (arg a la ∷ arg b lb ∷ []) (trmm_shape side a b) b

abbrev pub trsm_check : Side → View → ℕ → View → ℕ → Answer
trsm_check side a la b lb = judge (arg a la ∷ arg b lb ∷ []) (trmm_shape side a b) b

-- a view of no elements: the target of a call that writes nothing
abbrev pub no_target : View
no_target = record { start = 0; rows = 0; cols = 0; rs = pos 0; cs = pos 0 }

-- a view that is only read, by itself: refusals 1 and 2
abbrev pub read_check : View → ℕ → Answer
read_check v n = judge (arg v n ∷ []) true no_target
