-- A call that passes its check is ready (trmv has trsv's check, and trmm trsm's).
use Prim.Native.Nat.{ℕ}
use mathlib.Core.Bool.{Bool, true}
use mathlib.Core.Path.{◌≡◌, sym, subst, ◌∙◌}
use Rattle.view.specs.declared.View.{View}
use Rattle.view.specs.declared.Answer.{Answer}
use Rattle.view.specs.declared.Side.{Side}
use Rattle.view.specs.declared.Side.TheVariants.{Left}
use Rattle.view.specs.Judge.{is_done}
use Rattle.view.specs.Checks.{vector_of, trsv_check, trsm_check}
use Rattle.view.proofs.JudgeLaws.{judge-passed, trmv-sizes, trmm-sizes}
use Rattle.view.specs.Vector.{column_of}
use Rattle.view.proofs.VectorLaws.{column-accepted, column-no-overlap}
use Rattle.view.proofs.OverlapLaws.{no-overlap→index-inj}
use Rattle.view.proofs.PlaceLaws.{fits→index-lt}
use Rattle.slabs.specs.Distinct.{Inside}
use Rattle.blas.proofs.OutcomeLaws.{check_done}
use Rattle.triangle_plan.specs.Ready.{Sided}

module _ (a x : View) (la lx : ℕ) (r : Answer) (flag : Bool) (answered : r ≡ trsv_check a la x lx) (told : flag ≡ is_done r) (passed : flag ≡ true) where
  pub vector-passed : vector_of x a.rows ≡ true
  vector-passed = (trmv-sizes a x (judge-passed _ _ _ (check_done _ r flag answered told passed)).shape).1.shape

  pub vector-runs : (v : View) → v ≡ column_of x → Sided Left a la v lx
  vector-runs v columned =
      let h = judge-passed _ _ _ (check_done _ r flag answered told passed) in
      let s = trmv-sizes a x h.shape in
      subst (λ (w : View). Sided Left a la w lx) (sym columned)
      (record {
        a = h.each.0;
        b = column-accepted x lx s.1.vector h.each.1.0;
        rows = sym s.1.length;
        cols = s.0 ∙ sym s.1.length;
        distinct = record {
          only = no-overlap→index-inj (column_of x) lx (column-accepted x lx s.1.vector h.each.1.0).fits (column-no-overlap x s.1.vector h.distinct);
        };
      })

module _ (side : Side) (a b : View) (la lb : ℕ) (r : Answer) (flag : Bool) (answered : r ≡ trsm_check side a la b lb) (told : flag ≡ is_done r) (passed : flag ≡ true) where
  pub matrix-runs : Sided side a la b lb
  matrix-runs =
      let h = judge-passed _ _ _ (check_done _ r flag answered told passed) in
      let s = trmm-sizes side a b h.shape in
      record {
        a = h.each.0;
        b = h.each.1.0;
        rows = s.0;
        cols = s.1;
        distinct = record { only = no-overlap→index-inj b lb h.each.1.0.fits h.distinct };
      }

pub all-inside : (side : Side) (va : View) (la : ℕ) (vb : View) (lb : ℕ) → Sided side va la vb lb → Inside vb lb
all-inside side va la vb lb s = record { below = fits→index-lt vb lb s.b.fits }
