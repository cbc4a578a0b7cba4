-- What each quick test answers: whether the views of a call are as most are, with a few rows and columns, near starts and short strides,
-- on their slabs. A call that passes is not refused (proofs/Passes, Ops); ordinary calls pass (proofs/Ordinary).
use Rattle.std.specs.Prelude.{◌≡◌, Bool, true, false, cond, ◌&&◌, ◌||◌, ℕ, ◌+◌, ◌-◌, ◌*◌, ◌^◌, leb, ltb, eqb, ℤ, pos, negsuc}
use Rattle.view.specs.declared.View.{View}
use Rattle.view.specs.declared.Trans.{Trans}
use Rattle.view.specs.declared.Trans.TheVariants.{NoTrans}
use Rattle.view.specs.declared.Side.{Side}
use Rattle.view.specs.Refusals.{limit}
use Rattle.view.specs.Steps.{up}
use Rattle.view.specs.Checks.{shaped, gemm_shape, trmm_shape, symm_shape, syrk_shape, syr2k_shape}

-- ---- sizes, starts and strides

-- a number of rows or columns: at least 1, and within the limit
unfoldable pub few : ℕ → Bool
few n = ltb 0 n && leb n limit

-- a start below 2 ^ 30
abbrev pub near : ℕ → Bool
near start = ltb start (2 ^ 30)

-- a stride that is not negative, and below 2 ^ 30
unfoldable pub short : ℤ → Bool
short (pos n) = ltb n (2 ^ 30)
short (negsuc n) = false

-- a stride that leads from one element to the next: it is above 0
abbrev pub leads : ℤ → Bool
leads z = ltb 0 (up z)

-- how far the last of n elements is from the first, by a stride
abbrev pub reach : ℕ → ℤ → ℕ
reach n z = (n - 1) * up z

-- few elements by a short stride: what is asked where `reach` is worked out
abbrev pub Run : ℕ → ℤ → Type 0
Run n z = (few n ≡ true) × (short z ≡ true)

-- ---- matrices

-- a view of a few rows and columns
unfoldable pub small : View → Bool
small v = few v.rows && few v.cols

-- a view of a few rows and as many columns
unfoldable pub square : View → Bool
square a = few a.rows && eqb a.cols a.rows

-- the last element of a matrix is below the slab's end
abbrev pub ends : ℕ → ℕ → ℕ → ℤ → ℤ → ℕ → Bool
ends start rows cols rs cs len = ltb (start + (reach rows rs + reach cols cs)) len

-- a matrix with a near start and short strides, its last element on the slab
unfoldable pub plain : View → ℕ → Bool
plain v len =
    near v.start && (short v.rs && (short v.cs && ends v.start v.rows v.cols v.rs v.cs len))

-- z leads past the last of n elements, which lie by a stride that leads on
abbrev pub past : ℤ → ℕ → ℤ → Bool
past z n stride = ltb (reach n stride) (up z) && leads stride

-- each row is past the one before it, or each column past the one before it
unfoldable pub apart : ℕ → ℕ → ℤ → ℤ → Bool
apart rows cols rs cs = past rs cols cs || past cs rows rs

-- a plain matrix whose rows or columns are apart: each element is on a place of its own
unfoldable pub written : View → ℕ → Bool
written v len = plain v len && apart v.rows v.cols v.rs v.cs

-- ---- vectors of length n

-- the stride along a column of n elements, or along a row of n; -1 for a view that is neither
unfoldable pub stride_of : View → ℕ → ℤ
stride_of v n = cond (shaped v n 1) v.rs (cond (shaped v 1 n) v.cs (negsuc 0))

-- n elements from a near start by a short stride, the last of them on the slab
unfoldable pub reaches : ℕ → ℕ → ℤ → ℕ → Bool
reaches start n z len = near start && (short z && ltb (start + reach n z) len)

-- a column or a row of n elements, with a near start and a short stride, the last of them on the slab
unfoldable pub plain_vector : View → ℕ → ℕ → Bool
plain_vector v n len = reaches v.start n (stride_of v n) len

-- the same by a stride that leads on: each element is on a place of its own
unfoldable pub written_vector : View → ℕ → ℕ → Bool
written_vector v n len = plain_vector v n len && leads (stride_of v n)

-- ---- the calls, each view with the length of its slab

-- gemv, of the view of op(A): A small and plain, x a vector of its columns, y a target of its rows
unfoldable pub quick_gemv : View → ℕ → View → ℕ → View → ℕ → Bool
quick_gemv a la x lx y ly = small a && (plain a la && (plain_vector x a.cols lx && written_vector y a.rows ly))

-- A square and plain, x a vector of its order, y a target
unfoldable pub quick_hemv : View → ℕ → View → ℕ → View → ℕ → Bool
quick_hemv a la x lx y ly = square a && (plain a la && (plain_vector x a.rows lx && written_vector y a.rows ly))

-- A square and written, x a vector of its order
unfoldable pub quick_her : View → ℕ → View → ℕ → Bool
quick_her x lx a la = square a && (plain_vector x a.rows lx && written a la)

-- A square and written, x and y vectors of its order
unfoldable pub quick_her2 : View → ℕ → View → ℕ → View → ℕ → Bool
quick_her2 x lx y ly a la = square a && (plain_vector x a.rows lx && (plain_vector y a.rows ly && written a la))

-- trmv and trsv: A square and plain, x a target of its order
unfoldable pub quick_trmv : View → ℕ → View → ℕ → Bool
quick_trmv a la x lx = square a && (plain a la && written_vector x a.rows lx)

-- gemm, of the views of op(A) and op(B): C small and written, a few terms in each sum, A and B plain; their sizes are C's and the sums'
unfoldable pub quick_gemm : View → ℕ → View → ℕ → View → ℕ → Bool
quick_gemm a la b lb c lc =
    small c && (few a.cols && (gemm_shape NoTrans NoTrans a b c && (written c lc && (plain a la && plain b lb))))

-- symm and hemm: C small and written, A and B plain; their sizes are C's
unfoldable pub quick_symm : Side → View → ℕ → View → ℕ → View → ℕ → Bool
quick_symm side a la b lb c lc = symm_shape side a b c && (small c && (plain a la && (plain b lb && written c lc)))

-- syrk and herk: A small and plain, C written; its sizes are of A's
unfoldable pub quick_syrk : Trans → View → ℕ → View → ℕ → Bool
quick_syrk t a la c lc = small a && (syrk_shape t a c && (plain a la && written c lc))

-- syr2k and her2k: A small and plain, B plain, C written; their sizes are of A's
unfoldable pub quick_syr2k : Trans → View → ℕ → View → ℕ → View → ℕ → Bool
quick_syr2k t a la b lb c lc = small a && (syr2k_shape t a b c && (plain a la && (plain b lb && written c lc)))

-- trmm and trsm: B small and written, A plain; its sizes are of B's
unfoldable pub quick_trmm : Side → View → ℕ → View → ℕ → Bool
quick_trmm side a la b lb = small b && (trmm_shape side a b && (plain a la && written b lb))
