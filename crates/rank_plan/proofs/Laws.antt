-- What a turn of the code makes of an element, over any number kind.
use Prim.Native.Nat.{ℕ}
use mathlib.Core.Path.{◌≡◌, ap}
use Rattle.number.specs.Kind.{Kind}
use Rattle.blas.specs.Matrix.{Matrix}
use Rattle.blas.specs.Her.{her_change}
use Rattle.blas.specs.Her2.{her2_change}
use Rattle.rank_plan.specs.Change.{add_one, add_two}

-- the weighed elements i of x and y
pub her-same : (K : Kind) (alpha : K.Factor) (x : Matrix K) (i : ℕ) (w : K.Elem) → w ≡ K.scale_real alpha (x i 0)
    → (j : ℕ) (old : K.Elem) → add_one K w x j old ≡ her_change K alpha x i j old
her-same K alpha x i w e j old = ap (λ z. add_one K z x j old) e

pub her2-same : (K : Kind) (alpha : K.Elem) (x y : Matrix K) (i : ℕ) (w w' : K.Elem) → w ≡ K.mul alpha (x i 0) → w' ≡ K.mul (K.conj alpha) (y i 0)
    → (j : ℕ) (old : K.Elem) → add_two K w w' x y j old ≡ her2_change K alpha x y i j old
her2-same K alpha x y i w w' e e' j old = λ t. add_two K (e t) (e' t) x y j old
