-- What a system reads and writes is inside the slabs, and is what the definitions mean.
use Prim.Native.Nat.{ℕ, ◌+◌, ◌<◌}
use mathlib.Core.Bool.{cond}
use mathlib.Core.List.{List}
use mathlib.Core.Path.{◌≡◌, refl, ap, sym, subst, ◌∙◌}
use native.Mathlib.Omega.{arith}
use Rattle.number.specs.Kind.{Kind}
use Rattle.view.specs.declared.View.{View}
use Rattle.view.specs.declared.Trans.{Trans}
use Rattle.view.specs.declared.Trans.TheVariants.{NoTrans, Trans as Transposed, ConjTrans}
use Rattle.view.specs.declared.UpLo.{UpLo}
use Rattle.view.specs.declared.Diag.{Diag}
use Rattle.view.specs.declared.Side.{Side}
use Rattle.view.specs.declared.Side.TheVariants.{Left, Right}
use Rattle.view.specs.Place.{index, op_view_of, is_conj}
use Rattle.view.proofs.TransposeLaws.{transposed-index, transposed-accepted, op-accepted}
use Rattle.view.specs.Steps.{Accepted}
use Rattle.view.specs.Vector.{column_of}
use Rattle.slabs.specs.Distinct.{Distinct}
use Rattle.slabs.specs.Elem.{elem, Within}
use Rattle.blas.specs.Matrix.{Matrix, op}
use Rattle.blas.specs.Substitution.{unknown_at, unknown}
use Rattle.blas.proofs.OpLaws.{op-elem, transposed-elem}
use Rattle.triangle_plan.specs.declared.System.{System}
use Rattle.triangle_plan.specs.Triangles.{lines_view, system_of, coefficient}
use Rattle.triangle_plan.specs.Ready.{Ready, LinesReady, Sided}

-- ---- what is read

-- coefficient (q, p): Left op(A)'s element (q, p), Right its element (p, q)
abbrev pub op_sided : (K : Kind) → Side → Trans → Matrix K → ℕ → ℕ → K.Elem
op_sided K Left t a q p = op K t a q p
op_sided K Right t a q p = op K t a p q

module _ (K : Kind) (uplo : UpLo) (t : Trans) (diag : Diag) (va vb : View) (a : List K.Cell) where
  pub coefficient-is : (side : Side) (q p : ℕ) → coefficient K (system_of side uplo t diag va vb) a q p ≡ op_sided K side t (elem K a va) q p
  coefficient-is Left q p = op-elem K a t va q p
  coefficient-is Right q p =
      ap (λ (x : K.Elem). cond (is_conj t) (K.conj x) x) (transposed-elem K a (op_view_of t va) q p) ∙ op-elem K a t va p q

  -- the diagonal is A's own
  op-diagonal : (t' : Trans) (q : ℕ) → elem K a (op_view_of t' va) q q ≡ elem K a va q q
  op-diagonal NoTrans q = refl
  op-diagonal Transposed q = transposed-elem K a va q q
  op-diagonal ConjTrans q = transposed-elem K a va q q

  pub diagonal-is : (side : Side) (q : ℕ) → elem K a (lines_view side (op_view_of t va)) q q ≡ elem K a va q q
  diagonal-is Left q = op-diagonal t q
  diagonal-is Right q = transposed-elem K a (op_view_of t va) q q ∙ op-diagonal t q

-- element (i, j) of B: which element of its line it is, and its line
abbrev pub turn : Side → ℕ → ℕ → ℕ
turn Left i j = i
turn Right i j = j

abbrev pub line : Side → ℕ → ℕ → ℕ
line Left i j = j
line Right i j = i

-- unknown p of line l
pub lines-index : (side : Side) (v : View) (p l : ℕ) → index (lines_view side v) p l ≡ unknown_at side v p l
lines-index Left v p l = refl
lines-index Right v p l = transposed-index v p l

pub lines-elem : (K : Kind) (s : List K.Cell) (side : Side) (v : View) (p l : ℕ) → elem K s (lines_view side v) p l ≡ unknown K side s v p l
lines-elem K s side v p l = ap (K.at s) (lines-index side v p l)

-- ---- that it is inside

lines-accepted : (side : Side) (v : View) (len : ℕ) → Accepted v len → Accepted (lines_view side v) len
lines-accepted Left v len h = h
lines-accepted Right v len h = transposed-accepted v len h

lines-apart : (side : Side) (v : View) → Distinct v → Distinct (lines_view side v)
lines-apart Left v h = h
lines-apart Right v h = record {
  only = λ r c r' c' p q p' q' e.
      let b = h.only c r c' r' q p q' p' (sym (transposed-index v r c) ∙ e ∙ transposed-index v r' c') in
      (b.1, b.0);
}

module _ (uplo : UpLo) (t : Trans) (diag : Diag) (va : View) (la : ℕ) (vb : View) (lb : ℕ) where
  square-rows : (side : Side) (t' : Trans) → Sided side va la vb lb → (lines_view side (op_view_of t' va)).rows ≡ (lines_view side vb).rows
  square-rows Left NoTrans s = s.rows
  square-rows Left Transposed s = s.cols
  square-rows Left ConjTrans s = s.cols
  square-rows Right NoTrans s = s.cols
  square-rows Right Transposed s = s.rows
  square-rows Right ConjTrans s = s.rows

  square-cols : (side : Side) (t' : Trans) → Sided side va la vb lb → (lines_view side (op_view_of t' va)).cols ≡ (lines_view side vb).rows
  square-cols Left NoTrans s = s.cols
  square-cols Left Transposed s = s.rows
  square-cols Left ConjTrans s = s.rows
  square-cols Right NoTrans s = s.rows
  square-cols Right Transposed s = s.cols
  square-cols Right ConjTrans s = s.cols

  ready_of : (side : Side) → Sided side va la vb lb → Ready (system_of side uplo t diag va vb) la lb
  ready_of side s = record {
    pivots = record { a = lines-accepted side (op_view_of t va) la (op-accepted t va la s.a); rows = square-rows side t s; cols = square-cols side t s };
    b = lines-accepted side vb lb s.b;
    apart = lines-apart side vb s.distinct;
  }

  -- the system that a call makes, on a slab that keeps its length
  pub ready_made : (side : Side) (y : System) (lb' : ℕ) → Sided side va la vb lb → y ≡ system_of side uplo t diag va vb → lb' ≡ lb → Ready y la lb'
  ready_made side y lb' s made kept =
      subst (λ (x : System). Ready x la lb') (sym made) (subst (λ (n : ℕ). Ready (system_of side uplo t diag va vb) la n) (sym kept) (ready_of side s))

-- a vector is one line
pub one_line : (uplo : UpLo) (t : Trans) (diag : Diag) (a v x : View) (y : System) → v ≡ column_of x → y ≡ system_of Left uplo t diag a v → y.b.cols ≡ 1
one_line uplo t diag a v x y columned made = ap (λ (z : System). z.b.cols) made ∙ ap (λ (z : View). z.cols) columned

-- ---- what w lines read and write

module _ (y : System) (la lb q l w : ℕ) (r : LinesReady y la lb q l w) where
  -- the coefficients of unknown q
  pub coefficient_shown : (p : ℕ) → p < y.b.rows → Within y.a la q p
  coefficient_shown p h = record {
    fits = r.ready.pivots.a;
    row = subst (λ (m : ℕ). q < m) (sym r.ready.pivots.rows) r.unknown;
    col = subst (λ (m : ℕ). p < m) (sym r.ready.pivots.cols) h;
  }

  -- unknown p in each line
  pub lanes_shown : (p : ℕ) → p < y.b.rows → (t : ℕ) → t < w → Within y.b lb p (l + t)
  lanes_shown p h t g = record { fits = r.ready.b; row = h; col = omega (arith, r.lines) }
