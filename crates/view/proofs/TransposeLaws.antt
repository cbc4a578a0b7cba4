-- Laws of the transposed view: it shows element (j, i) as element (i, j), and fits where the view fits.
use mathlib.Core.Path.{◌≡◌, sym, ap, ◌∙◌}
use Prim.Native.Nat.{ℕ}
use lib.IntN.{ℤ, pos, nat_abs, ◌+ℤ◌, ◌*ℤ◌, +ℤ_assoc, +ℤ_comm}
use Rattle.view.specs.declared.View.{View}
use Rattle.view.specs.declared.Trans.{Trans}
use Rattle.view.specs.declared.Trans.TheVariants.{NoTrans, Trans as Transposed, ConjTrans}
use Rattle.view.specs.Place.{place, index, transposed_of, op_view_of}
use Rattle.view.specs.Refusals.{outside, Fits}
use Rattle.view.specs.Steps.{Accepted}
use Rattle.view.proofs.PlaceLaws.{fits-at, at-fits}

pub transposed-place : (v : View) (i j : ℕ) → place (transposed_of v) i j ≡ place v j i
unfolding place
transposed-place v i j = swap (pos v.start) (pos i *ℤ v.cs) (pos j *ℤ v.rs)
  where
    swap : (a b c : ℤ) → a +ℤ b +ℤ c ≡ a +ℤ c +ℤ b
    swap a b c = +ℤ_assoc a b c ∙ ap (λ (z : ℤ). a +ℤ z) (+ℤ_comm b c) ∙ sym (+ℤ_assoc a c b)

pub transposed-index : (v : View) (i j : ℕ) → index (transposed_of v) i j ≡ index v j i
unfolding index
transposed-index v i j = ap nat_abs (transposed-place v i j)

pub transposed-fits : (v : View) (len : ℕ) → Fits v len → Fits (transposed_of v) len
transposed-fits v len f =
    at-fits (transposed_of v) len (λ i j p q. ap (outside len) (transposed-place v i j) ∙ fits-at v len f j i q p)

pub transposed-accepted : (v : View) (len : ℕ) → Accepted v len → Accepted (transposed_of v) len
transposed-accepted v len a = record { rows-le = a.cols-le; cols-le = a.rows-le; fits = transposed-fits v len a.fits }

pub op-accepted : (t : Trans) (v : View) (len : ℕ) → Accepted v len → Accepted (op_view_of t v) len
op-accepted NoTrans v len a = a
op-accepted Transposed v len a = transposed-accepted v len a
op-accepted ConjTrans v len a = transposed-accepted v len a
