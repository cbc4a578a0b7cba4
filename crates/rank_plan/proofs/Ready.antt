-- A call that its check passes is ready: it reads and writes inside the slabs.
use Prim.Native.Nat.{ℕ}
use mathlib.Core.List.{[], ◌∷◌}
use mathlib.Core.Path.{◌≡◌, refl, sym, ◌∙◌}
use Rattle.view.specs.declared.View.{View}
use Rattle.view.specs.declared.Trans.{Trans}
use Rattle.view.specs.declared.Trans.TheVariants.{NoTrans, Trans as Transposed, ConjTrans}
use Rattle.view.specs.declared.UpLo.{UpLo}
use Rattle.view.specs.Place.{op_view_of}
use Rattle.view.specs.Steps.{Accepted}
use Rattle.view.specs.Judge.{arg}
use Rattle.view.specs.Checks.{op_rows, op_cols, syr2k_shape}
use Rattle.view.proofs.JudgeLaws.{Passed, Vector, syr2k-sizes}
use Rattle.view.proofs.TransposeLaws.{op-accepted}
use Rattle.view.specs.Vector.{column_of}
use Rattle.view.proofs.VectorLaws.{column-accepted}
use Rattle.rank_plan.specs.declared.plan.Readings.{Readings}
use Rattle.rank_plan.specs.Plan.{paired_plan, syr_readings, her_readings}
use Rattle.rank_plan.specs.Ready.{Sized, Paired}

-- ---- vectors

pub column-inside : (v : View) (len n : ℕ) → Vector v n → Accepted v len → Sized (column_of v) len (column_of v).rows 1
column-inside v len n s h = record { fits = column-accepted v len s.vector h; rows = refl; cols = refl }

-- ---- matrices

-- the left factor has the shape of op(A), and the right one the shape of its transpose
pub record Turned (t : Trans) (r : Readings) : Type 0 where
  pub left-rows : (v : View) → op_rows r.left v ≡ op_rows t v
  pub left-cols : (v : View) → op_cols r.left v ≡ op_cols t v
  pub right-rows : (v : View) → op_rows r.right v ≡ op_cols t v
  pub right-cols : (v : View) → op_cols r.right v ≡ op_rows t v

pub syr-turned : (t : Trans) → Turned t (syr_readings t)
syr-turned NoTrans = record { left-rows = λ v. refl; left-cols = λ v. refl; right-rows = λ v. refl; right-cols = λ v. refl }
syr-turned Transposed = record { left-rows = λ v. refl; left-cols = λ v. refl; right-rows = λ v. refl; right-cols = λ v. refl }
syr-turned ConjTrans = record { left-rows = λ v. refl; left-cols = λ v. refl; right-rows = λ v. refl; right-cols = λ v. refl }

pub her-turned : (t : Trans) → Turned t (her_readings t)
her-turned NoTrans = record { left-rows = λ v. refl; left-cols = λ v. refl; right-rows = λ v. refl; right-cols = λ v. refl }
her-turned Transposed = record { left-rows = λ v. refl; left-cols = λ v. refl; right-rows = λ v. refl; right-cols = λ v. refl }
her-turned ConjTrans = record { left-rows = λ v. refl; left-cols = λ v. refl; right-rows = λ v. refl; right-cols = λ v. refl }

-- matrices of one shape, read alike
module _ (v a : View) (rows : v.rows ≡ a.rows) (cols : v.cols ≡ a.cols) where
  op-rows : (t : Trans) → op_rows t v ≡ op_rows t a
  op-rows NoTrans = rows
  op-rows Transposed = cols
  op-rows ConjTrans = cols

  op-cols : (t : Trans) → op_cols t v ≡ op_cols t a
  op-cols NoTrans = cols
  op-cols Transposed = rows
  op-cols ConjTrans = rows

-- the view of op(A) has op(A)'s sizes
view-rows : (t : Trans) (v : View) → (op_view_of t v).rows ≡ op_rows t v
view-rows NoTrans v = refl
view-rows Transposed v = refl
view-rows ConjTrans v = refl

view-cols : (t : Trans) (v : View) → (op_view_of t v).cols ≡ op_cols t v
view-cols NoTrans v = refl
view-cols Transposed v = refl
view-cols ConjTrans v = refl

module _ (uplo : UpLo) (t : Trans) (r : Readings) (turned : Turned t r) (a b c : View) (la lb lc : ℕ)
    (h : Passed (arg a la ∷ arg b lb ∷ arg c lc ∷ []) (syr2k_shape t a b c) c) where
  module _ (v : View) (len : ℕ) (fits : Accepted v len) (rows : v.rows ≡ a.rows) (cols : v.cols ≡ a.cols) where
    left : Sized (op_view_of r.left v) len c.rows (op_cols t a)
    left =
        let s = syr2k-sizes t a b c h.shape in
        record {
          fits = op-accepted r.left v len fits;
          rows = view-rows r.left v ∙ turned.left-rows v ∙ op-rows v a rows cols t ∙ sym s.2;
          cols = view-cols r.left v ∙ turned.left-cols v ∙ op-cols v a rows cols t;
        }

    right : Sized (op_view_of r.right v) len (op_cols t a) c.cols
    right =
        let s = syr2k-sizes t a b c h.shape in
        record {
          fits = op-accepted r.right v len fits;
          rows = view-rows r.right v ∙ turned.right-rows v ∙ op-cols v a rows cols t;
          cols = view-cols r.right v ∙ turned.right-cols v ∙ op-rows v a rows cols t ∙ sym s.3;
        }

  pub paired-ready : Paired (paired_plan uplo t r a b c) la lb lc
  paired-ready =
      let s = syr2k-sizes t a b c h.shape in
      record {
        factors = record {
          left-a = left a la h.each.0 refl refl;
          right-b = right b lb h.each.1.0 s.0 s.1;
          left-b = left b lb h.each.1.0 s.0 s.1;
          right-a = right a la h.each.0 refl refl;
        };
        target = record { fits = h.each.1.1.0; rows = refl; cols = s.3 ∙ sym s.2 };
      }
