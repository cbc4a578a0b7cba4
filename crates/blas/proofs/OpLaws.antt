-- An element of op(A) is read through the view of op(A), and conjugated where op conjugates.
use Prim.Native.Nat.{ℕ}
use mathlib.Core.Bool.{cond}
use mathlib.Core.List.{List}
use mathlib.Core.Path.{◌≡◌, refl, ap}
use Rattle.number.specs.Kind.{Kind}
use Rattle.view.specs.declared.View.{View}
use Rattle.view.specs.declared.Trans.{Trans}
use Rattle.view.specs.declared.Trans.TheVariants.{NoTrans, Trans as Transposed, ConjTrans}
use Rattle.view.specs.Place.{op_view_of, transposed_of, is_conj}
use Rattle.view.proofs.TransposeLaws.{transposed-index}
use Rattle.slabs.specs.Elem.{elem}
use Rattle.blas.specs.Matrix.{op}

pub transposed-elem : (K : Kind) (s : List K.Cell) (v : View) (i j : ℕ) → elem K s (transposed_of v) i j ≡ elem K s v j i
transposed-elem K s v i j = ap (K.at s) (transposed-index v i j)

pub op-elem : (K : Kind) (s : List K.Cell) (t : Trans) (v : View) (i j : ℕ) →
    cond (is_conj t) (K.conj (elem K s (op_view_of t v) i j)) (elem K s (op_view_of t v) i j) ≡ op K t (elem K s v) i j
op-elem K s NoTrans v i j = refl
op-elem K s Transposed v i j = transposed-elem K s v i j
op-elem K s ConjTrans v i j = ap K.conj (transposed-elem K s v i j)
