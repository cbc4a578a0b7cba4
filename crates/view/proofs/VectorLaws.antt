-- Laws of vectors: the one-column view of a vector shows the vector's elements, in order.
use mathlib.Core.Path.{◌≡◌, refl, sym, ◌∙◌, ap, subst}
use mathlib.Core.Bool.{Bool, true, false, cond, ◌||◌}
use Prim.Native.Nat.{ℕ, zero, suc, ◌+◌, ◌*◌, ◌≤◌, ◌<◌}
use native.Mathlib.Nat.{mul-zero, mul-one}
use native.Mathlib.Omega.{arith}
use lib.Dec.{leb, lit≤}
use lib.IntN.{ℤ, pos, nat_abs, ◌+ℤ◌, ◌*ℤ◌, zero-*ℤ, +ℤ_idr}
use borrow.Author.Tests.{leb-true, leb-false}
use Rattle.view.specs.declared.View.{View}
use Rattle.view.specs.declared.Coord.{Coord}
use Rattle.view.proofs.AnyLaws.{is_false}
use Rattle.view.specs.Place.{place, index, transposed_of}
use Rattle.view.specs.Refusals.{limit, outside, is_vector, vec_length, overlaps, Fits}
use Rattle.view.specs.Vector.{coord_at, vec_coord, upright_of, vec_stride, column_of}
use Rattle.view.specs.Steps.{Accepted}
use Rattle.view.proofs.PlaceLaws.{fits-at, at-fits}
use Rattle.view.proofs.OverlapLaws.{overlaps→doubled, no-overlap→one}

-- how a vector lies: down a column, or along a row
pub record Down (v : View) : Type 0 where
  pub tall : leb v.cols v.rows ≡ true
  pub thin : v.cols ≤ 1

pub record Along (v : View) : Type 0 where
  pub wide : leb v.cols v.rows ≡ false
  pub thin : v.rows ≤ 1

pub lies : (v : View) → is_vector v ≡ true → (P : Type 0) → (Down v → P) → (Along v → P) → P
unfolding is_vector
lies v h P f g = at (leb v.cols v.rows) refl (leb v.rows 1) refl
  where
    at : (t : Bool) → leb v.cols v.rows ≡ t → (u : Bool) → leb v.rows 1 ≡ u → P
    at true e true i = f (record { tall = e; thin = omega (arith, leb-true v.cols v.rows e, leb-true v.rows 1 i) })
    at true e false i = f (record { tall = e; thin = leb-true v.cols 1 (subst (λ (b : Bool). (b || leb v.cols 1) ≡ true) i h) })
    at false e true i = g (record { wide = e; thin = leb-true v.rows 1 i })
    at false e false i = absurd (long v.cols v.rows (leb-false v.cols v.rows e) (leb-false v.rows 1 i) (leb-true v.cols 1 (subst (λ (b : Bool). (b || leb v.cols 1) ≡ true) i h)))
      where
        long : (c r : ℕ) → r < c → 1 < r → c ≤ 1 → ⊥
        long c r p q t = omega arith

-- ---- the upright view begins where the view does, and its rows are as far apart as the vector's elements

pub upright-start : (v : View) → (upright_of v).start ≡ v.start
upright-start v = at (leb v.cols v.rows)
  where
    at : (t : Bool) → (cond t v (transposed_of v)).start ≡ v.start
    at true = refl
    at false = refl

pub upright-stride : (v : View) → (upright_of v).rs ≡ vec_stride v
unfolding vec_stride
upright-stride v = at (leb v.cols v.rows)
  where
    at : (t : Bool) → (cond t v (transposed_of v)).rs ≡ cond t v.rs v.cs
    at true = refl
    at false = refl

-- ---- element k of the column is element k of the vector

pub column-place : (v : View) (k : ℕ) → place (column_of v) k 0 ≡ place v (vec_coord v k).row (vec_coord v k).col
unfolding place vec_coord vec_stride
column-place v k = at (leb v.cols v.rows)
  where
    at : (t : Bool) → pos v.start +ℤ pos k *ℤ cond t v.rs v.cs +ℤ pos 0 ≡ pos v.start +ℤ pos (coord_at t k).row *ℤ v.rs +ℤ pos (coord_at t k).col *ℤ v.cs
    at true = ap (λ (z : ℤ). pos v.start +ℤ pos k *ℤ v.rs +ℤ z) (sym (zero-*ℤ v.cs))
    at false =
        +ℤ_idr (pos v.start +ℤ pos k *ℤ v.cs)
        ∙ ap (λ (z : ℤ). z +ℤ pos k *ℤ v.cs) (sym (+ℤ_idr (pos v.start)) ∙ ap (λ (z : ℤ). pos v.start +ℤ z) (sym (zero-*ℤ v.rs)))

pub column-index : (v : View) (k : ℕ) → index (column_of v) k 0 ≡ index v (vec_coord v k).row (vec_coord v k).col
unfolding index
column-index v k = ap nat_abs (column-place v k)

-- ---- the vector's elements are those at k below its length, each once

pub coord-sum : (v : View) (k : ℕ) → (vec_coord v k).row + (vec_coord v k).col ≡ k
unfolding vec_coord
coord-sum v k = at (leb v.cols v.rows)
  where
    at : (t : Bool) → (coord_at t k).row + (coord_at t k).col ≡ k
    at true = omega arith
    at false = omega arith

thin-below : (m n k : ℕ) → n ≤ 1 → k < m * n → (k < m) × (0 < n)
thin-below m zero k h p = omega (arith, mul-zero m)
thin-below m (suc zero) k h p = omega (arith, mul-one m)
thin-below m (suc (suc n)) k h p = absurd (two n h)
  where
    two : (n : ℕ) → suc (suc n) ≤ 1 → ⊥
    two n h = omega arith

thin-le : (m n : ℕ) → n ≤ 1 → m * n ≤ m
thin-le m zero h = omega (arith, mul-zero m)
thin-le m (suc zero) h = omega (arith, mul-one m)
thin-le m (suc (suc n)) h = absurd (two n h)
  where
    two : (n : ℕ) → suc (suc n) ≤ 1 → ⊥
    two n h = omega arith

pub coord-in : (v : View) → is_vector v ≡ true → (k : ℕ) → k < vec_length v → ((vec_coord v k).row < v.rows) × ((vec_coord v k).col < v.cols)
unfolding vec_coord
coord-in v h k p =
    lies v h (((vec_coord v k).row < v.rows) × ((vec_coord v k).col < v.cols))
    (λ d. rw d.tall (thin-below v.rows v.cols k d.thin p))
    (λ d. let w = thin-below v.cols v.rows k d.thin (omega arith) in rw d.wide (w.1, w.0))

pub coord-all : (v : View) → is_vector v ≡ true → (r c : ℕ) → r < v.rows → c < v.cols → (r + c < vec_length v) × (vec_coord v (r + c) ≡ record { row = r; col = c })
unfolding vec_coord
coord-all v h r c p q =
    lies v h ((r + c < vec_length v) × (vec_coord v (r + c) ≡ record { row = r; col = c }))
    (λ d.
    let z : c ≡ 0 = omega (arith, d.thin) in
    (thin-in v.rows v.cols r c p q d.thin, ap (λ (t : Bool). coord_at t (r + c)) d.tall ∙ down r c z))
    (λ d.
    let z : r ≡ 0 = omega (arith, d.thin) in
    (omega (arith, thin-in v.cols v.rows c r q p d.thin), ap (λ (t : Bool). coord_at t (r + c)) d.wide ∙ along r c z))
  where
    thin-in : (m n r c : ℕ) → r < m → c < n → n ≤ 1 → r + c < m * n
    thin-in m zero r c p q t = omega arith
    thin-in m (suc zero) r c p q t = omega (arith, mul-one m)
    thin-in m (suc (suc n)) r c p q t = omega arith

    down : (r c : ℕ) → c ≡ 0 → ◌≡◌ {A = Coord} (record { row = r + c; col = 0 }) (record { row = r; col = c })
    down r c z = let e : r + c ≡ r = omega arith in λ i. record { row = e i; col = sym z i }

    along : (r c : ℕ) → r ≡ 0 → ◌≡◌ {A = Coord} (record { row = 0; col = r + c }) (record { row = r; col = c })
    along r c z = let e : r + c ≡ c = omega arith in λ i. record { row = sym z i; col = e i }

-- ---- what holds of the vector holds of its column

one-col : (c : ℕ) → c < 1 → c ≡ 0
one-col c h = omega arith

pub column_fits : (v : View) (len : ℕ) → is_vector v ≡ true → Fits v len → Fits (column_of v) len
column_fits v len h f =
    at-fits (column_of v) len
    (λ k c p q.
    let w = coord-in v h k p in
    ap (λ (c : ℕ). outside len (place (column_of v) k c)) (one-col c q)
    ∙ ap (outside len) (column-place v k)
    ∙ fits-at v len f (vec_coord v k).row (vec_coord v k).col w.0 w.1)

pub column-no-overlap : (v : View) → is_vector v ≡ true → overlaps v ≡ false → overlaps (column_of v) ≡ false
column-no-overlap v h f =
    is_false (overlaps (column_of v))
    (λ t.
    let w = overlaps→doubled (column_of v) t in
    let z : w.c ≡ 0 = one-col w.c w.c_lt in
    let z' : w.c' ≡ 0 = one-col w.c' w.c'-lt in
    let p = coord-in v h w.r w.r-lt in
    let p' = coord-in v h w.r' w.r'-lt in
    let e =
    sym (column-place v w.r)
    ∙ ap (place (column_of v) w.r) (sym z)
    ∙ w.same
    ∙ ap (place (column_of v) w.r') z'
    ∙ column-place v w.r'
    in
    let o = no-overlap→one v f (vec_coord v w.r).row (vec_coord v w.r).col (vec_coord v w.r').row (vec_coord v w.r').col p.0 p.1 p'.0 p'.1 e in
    w.apart
    (omega (arith, o.0, o.1, coord-sum v w.r, coord-sum v w.r'))
    (z ∙ sym z'))

pub column-accepted : (v : View) (len : ℕ) → is_vector v ≡ true → Accepted v len → Accepted (column_of v) len
column-accepted v len h a = record {
  rows-le = lies v h (vec_length v ≤ limit)
      (λ d. omega (arith, thin-le v.rows v.cols d.thin, a.rows-le))
      (λ d. omega (arith, thin-le v.cols v.rows d.thin, a.cols-le));
  cols-le = lit≤ tt;
  fits = column_fits v len h a.fits;
}
