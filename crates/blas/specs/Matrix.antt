-- Matrices and vectors as functions of row and column, the papers' readings of them, and sums of products.
use Rattle.std.specs.Prelude.{ℕ, zero, suc, Bool, cond}
use Rattle.number.specs.Kind.{Kind}
use Rattle.view.specs.declared.Trans.{Trans}
use Rattle.view.specs.declared.Trans.TheVariants.{NoTrans, Trans as Transposed, ConjTrans}
use Rattle.view.specs.declared.UpLo.{UpLo}
use Rattle.view.specs.Triangle.{in_triangle}
use Rattle.view.specs.Vector.{column_of}
use Rattle.slabs.specs.Elem.{Lent, elem}

abbrev pub Matrix : Kind → Type 0
Matrix K = ℕ → ℕ → K.Elem

-- what a lent slab shows through its view
abbrev pub matrix : (K : Kind) → Lent K → Matrix K
matrix K a i j = elem K a.slab a.view i j

-- a vector as a matrix of one column
abbrev pub vector : (K : Kind) → Lent K → Matrix K
vector K x i j = elem K x.slab (column_of x.view) i j

-- op(A): the matrix, its transpose, or its conjugate transpose
abbrev pub op : (K : Kind) → Trans → Matrix K → Matrix K
op K NoTrans a i j = a i j
op K Transposed a i j = a j i
op K ConjTrans a i j = K.conj (a j i)

-- the symmetric matrix whose named triangle is A's
abbrev pub symmetric : (K : Kind) → UpLo → Matrix K → Matrix K
symmetric K uplo a i j = cond (in_triangle uplo i j) (a i j) (a j i)

-- the Hermitian matrix whose named triangle is A's: a mirrored element is conjugated, and a diagonal element is read whole
abbrev pub hermitian : (K : Kind) → UpLo → Matrix K → Matrix K
hermitian K uplo a i j = cond (in_triangle uplo i j) (a i j) (K.conj (a j i))

-- f 0 + f 1 + .. + f (n − 1): it begins at ZERO and runs by rising index
unfoldable pub sum : (K : Kind) → ℕ → (ℕ → K.Elem) → K.Elem
sum K zero f = K.zero
sum K (suc n) f = K.add (sum K n f) (f n)

-- the same over the admitted indices alone; the others are skipped
unfoldable pub sum_over : (K : Kind) → ℕ → (ℕ → Bool) → (ℕ → K.Elem) → K.Elem
sum_over K zero admits f = K.zero
sum_over K (suc n) admits f = cond (admits n) (K.add (sum_over K n admits f) (f n)) (sum_over K n admits f)

-- f 0 + g 0 + f 1 + g 1 + .. + f (n − 1) + g (n − 1): the same with two additions for each index
unfoldable pub pair_sum : (K : Kind) → ℕ → (ℕ → K.Elem) → (ℕ → K.Elem) → K.Elem
pair_sum K zero f g = K.zero
pair_sum K (suc n) f g = K.add (K.add (pair_sum K n f g) (f n)) (g n)

-- element (i, j) of the product of L and R, with n columns of L and n rows of R
abbrev pub dot : (K : Kind) → ℕ → Matrix K → Matrix K → Matrix K
dot K n l r i j = sum K n (λ p. K.mul (l i p) (r p j))

-- what becomes of an element of a target with beta: the old element scaled (`by_beta`), plus the sum or product weighed (`by_alpha`)
abbrev pub accumulate : (K : Kind) → (K.Elem → K.Elem) → (K.Elem → K.Elem) → Matrix K → ℕ → ℕ → K.Elem → K.Elem
accumulate K by_beta by_alpha product i j old = K.add (by_beta old) (by_alpha (product i j))
