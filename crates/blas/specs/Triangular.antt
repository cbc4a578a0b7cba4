-- Triangular matrices: of op(A) the elements outside its triangle are skipped, and a Unit diagonal is unread and counts as ONE.
use Rattle.std.specs.Prelude.{ℕ, Bool, true, false, cond, ◌&&◌, leb, eqb}
use Rattle.number.specs.Kind.{Kind}
use Rattle.view.specs.declared.Trans.{Trans}
use Rattle.view.specs.declared.Trans.TheVariants.{NoTrans, Trans as Transposed, ConjTrans}
use Rattle.view.specs.declared.UpLo.{UpLo}
use Rattle.view.specs.declared.UpLo.TheVariants.{Upper, Lower}
use Rattle.view.specs.declared.Diag.{Diag}
use Rattle.view.specs.declared.Diag.TheVariants.{NonUnit, Unit}
use Rattle.view.specs.declared.Side.{Side}
use Rattle.view.specs.declared.Side.TheVariants.{Left, Right}
use Rattle.blas.specs.Matrix.{Matrix, op, sum_over}

-- op(A) is upper triangular
abbrev pub op_upper : UpLo → Trans → Bool
op_upper Upper NoTrans = true
op_upper Upper Transposed = false
op_upper Upper ConjTrans = false
op_upper Lower NoTrans = false
op_upper Lower Transposed = true
op_upper Lower ConjTrans = true

-- (i, j) is in op(A)'s triangle, the diagonal included
abbrev pub in_op : UpLo → Trans → ℕ → ℕ → Bool
in_op uplo t i j = cond (op_upper uplo t) (leb i j) (leb j i)

abbrev pub is_unit : Diag → Bool
is_unit NonUnit = false
is_unit Unit = true

-- element (i, j) of op(A)'s triangle
abbrev pub triangular : (K : Kind) → Diag → Trans → Matrix K → Matrix K
triangular K diag t a i j = cond (is_unit diag && eqb i j) K.one (op K t a i j)

-- element (i, j) of op(A) B (Left) or B op(A) (Right), in that order of operands, A of order n
abbrev pub triangular_dot : (K : Kind) → Side → UpLo → Trans → Diag → ℕ → Matrix K → Matrix K → Matrix K
triangular_dot K Left uplo t diag n a b i j = sum_over K n (λ p. in_op uplo t i p) (λ p. K.mul (triangular K diag t a i p) (b p j))
triangular_dot K Right uplo t diag n a b i j = sum_over K n (λ p. in_op uplo t p j) (λ p. K.mul (b i p) (triangular K diag t a p j))
