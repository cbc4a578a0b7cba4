-- Where a view's elements are in its slab (document 01, "Numbers and views").
use Rattle.std.specs.Prelude.{ℕ, ℤ, pos, ◌+ℤ◌, ◌*ℤ◌, nat_abs, Bool, true, false}
use Rattle.view.specs.declared.View.{View}
use Rattle.view.specs.declared.Trans.{Trans}
use Rattle.view.specs.declared.Trans.TheVariants.{NoTrans, Trans as Transposed, ConjTrans}

-- a view by its five numbers
abbrev pub view_of : ℕ → ℕ → ℕ → ℤ → ℤ → View
view_of start rows cols rs cs = record { start = start; rows = rows; cols = cols; rs = rs; cs = cs }

-- start + r · row stride + c · column stride, over the integers
unfoldable pub place : View → ℕ → ℕ → ℤ
place v r c = pos v.start +ℤ pos r *ℤ v.rs +ℤ pos c *ℤ v.cs

-- the place as an index of the slab: for a view that fits its slab, `place v r c` is `pos (index v r c)`
unfoldable pub index : View → ℕ → ℕ → ℕ
index v r c = nat_abs (place v r c)

-- the same elements with rows and columns exchanged
abbrev pub transposed_of : View → View
transposed_of v = record { start = v.start; rows = v.cols; cols = v.rows; rs = v.cs; cs = v.rs }

-- op(A)'s elements, not conjugated
abbrev pub op_view_of : Trans → View → View
op_view_of NoTrans v = v
op_view_of Transposed v = transposed_of v
op_view_of ConjTrans v = transposed_of v

-- whether op conjugates
abbrev pub is_conj : Trans → Bool
is_conj NoTrans = false
is_conj Transposed = false
is_conj ConjTrans = true
