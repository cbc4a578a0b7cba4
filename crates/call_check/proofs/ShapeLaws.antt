-- Vectors, as the shape rules find them.
use mathlib.Core.Path.{◌≡◌, refl, sym, ◌∙◌, ap}
use mathlib.Core.Bool.{Bool, true, false, ◌&&◌, ◌||◌}
use Prim.Native.Nat.{ℕ, ◌≤◌}
use native.Mathlib.Nat.{mul_comm}
use lib.Dec.{leb, eqb}
use lib.IntN.{nat_abs}
use borrow.Author.Tests.{le-leb}
use Rattle.view.specs.declared.View.{View}
use Rattle.view.specs.Place.{transposed_of}
use Rattle.view.proofs.AnyLaws.{or_right}
use Rattle.view.specs.Refusals.{is_vector, vec_length, overlaps}
use Rattle.view.specs.Checks.{vector_of}
use Rattle.view.proofs.OverlapLaws.{overlaps-is}
use Rattle.call_check.proofs.Multiples.{turned}

pub thin-cols : (v : View) → v.cols ≤ 1 → is_vector v ≡ true
unfolding is_vector
thin-cols v h = or_right (leb v.rows 1) (le-leb v.cols 1 h)

pub length-is : (v : View) (m n : ℕ) → is_vector v ≡ true → vec_length v ≡ m → eqb m n ≡ vector_of v n
unfolding vector_of
length-is v m n h e = ap (λ (k : ℕ). eqb k n) (sym e) ∙ ap (λ (b : Bool). b && eqb (vec_length v) n) (sym h)

-- ---- the transposed view

either : (p q : Bool) → (p || q) ≡ (q || p)
either true true = refl
either true false = refl
either false true = refl
either false false = refl

pub turned-vector : (v : View) (n : ℕ) → vector_of (transposed_of v) n ≡ vector_of v n
unfolding vector_of is_vector
turned-vector v n i = either (leb v.cols 1) (leb v.rows 1) i && eqb (mul_comm v.cols v.rows i) n

pub turned-overlaps : (v : View) → overlaps (transposed_of v) ≡ overlaps v
turned-overlaps v =
    overlaps-is (transposed_of v) ∙ sym (turned v.rows (nat_abs v.rs) v.cols (nat_abs v.cs)) ∙ sym (overlaps-is v)
