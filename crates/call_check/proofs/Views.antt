-- A matrix or a vector that the quick tests pass is accepted; one that is written has each element on a place of its own.
use mathlib.Core.Path.{◌≡◌, refl, sym, ◌∙◌, ap}
use mathlib.Core.Bool.{Bool, true, false, cond, ◌||◌, false≢true}
use Prim.Native.Nat.{ℕ, ◌+◌, ◌-◌, ◌*◌, ◌<◌}
use native.Mathlib.Nat.{mul-zero, zero-mul, mul-one}
use native.Mathlib.Omega.{arith}
use lib.Dec.{ltb}
use lib.IntN.{ℤ, negsuc, nat_abs}
use borrow.Author.Tests.{ltb-true, eq-eqb}
use Rattle.view.specs.declared.View.{View}
use Rattle.view.specs.Place.{transposed_of}
use Rattle.view.proofs.TransposeLaws.{transposed-accepted}
use Rattle.view.proofs.AnyLaws.{and_left, and_right}
use Rattle.view.specs.Refusals.{overlaps}
use Rattle.view.specs.Steps.{up, down, meets, Accepted}
use Rattle.view.specs.Checks.{shaped, vector_of}
use Rattle.view.proofs.JudgeLaws.{shaped-sizes}
use Rattle.view.proofs.OverlapLaws.{Meeting, overlaps-is, no-meeting}
use Rattle.call_check.proofs.Extent.{extent-fits}
use Rattle.call_check.proofs.Multiples.{flip, far_apart, each-past}
use Rattle.call_check.specs.Quick.{few, short, leads, reach, past, Run, small, plain, apart, written, stride_of, reaches, plain_vector, written_vector}
use Rattle.call_check.proofs.ShapeLaws.{thin-cols, length-is, turned-vector, turned-overlaps}
use Rattle.call_check.proofs.Runs.{each, few-is, short-is, reaches-short}
use Rattle.call_check.proofs.Sizes.{small-rows, small-cols}

-- ---- matrices

pub record Plain (v : View) (len : ℕ) : Type 0 where
  pub down-rows : Run v.rows v.rs
  pub along-cols : Run v.cols v.cs
  pub below : v.start + (reach v.rows v.rs + reach v.cols v.cs) < len

pub plain-is : (v : View) (len : ℕ) → small v ≡ true → plain v len ≡ true → Plain v len
unfolding plain
plain-is v len s h = record {
  down-rows = (small-rows v s, search each);
  along-cols = (small-cols v s, search each);
  below = ltb-true (v.start + (reach v.rows v.rs + reach v.cols v.cs)) len (search each);
}

fits-plain : (v : View) (len : ℕ) → Plain v len → Accepted v len
fits-plain v len p =
    let m = few-is v.rows p.down-rows.0 in
    let n = few-is v.cols p.along-cols.0 in
    let x = short-is v.rs p.down-rows.1 in
    let y = short-is v.cs p.along-cols.1 in
    record {
      rows-le = m.within;
      cols-le = n.within;
      fits = extent-fits v len (v.rows - 1) (v.cols - 1) (omega (arith, m.some)) (omega (arith, n.some)) (omega (arith, p.below))
          (omega (arith, p.below))
          (omega (arith, ap (λ (d : ℕ). (v.rows - 1) * d) x.forward, ap (λ (d : ℕ). (v.cols - 1) * d) y.forward, mul-zero (v.rows - 1), mul-zero (v.cols - 1)));
    }

pub plain-accepted : (v : View) (len : ℕ) → small v ≡ true → plain v len ≡ true → Accepted v len
plain-accepted v len s h = fits-plain v len (plain-is v len s h)

-- no multiple of z meets a multiple of such a stride
past-far : (m n : ℕ) (z stride : ℤ) → past z n stride ≡ true → Meeting m (up z) n (up stride) → ⊥
past-far m n z stride h =
    far_apart m (up z) n (up stride)
    (ltb-true 0 (up stride) (and_right (ltb (reach n stride) (up z)) (leads stride) h))
    (ltb-true (reach n stride) (up z) (and_left (ltb (reach n stride) (up z)) (leads stride) h))

apart-meets : (rows cols : ℕ) (rs cs : ℤ) → apart rows cols rs cs ≡ true → meets rows (up rs) cols (up cs) ≡ false
unfolding apart
apart-meets rows cols rs cs h = no-meeting rows (up rs) cols (up cs) (at (past rs cols cs) refl h)
  where
    at : (p : Bool) → past rs cols cs ≡ p → (p || past cs rows rs) ≡ true → Meeting rows (up rs) cols (up cs) → ⊥
    at true e t m = past-far rows cols rs cs e m
    at false e t m = past-far cols rows cs rs t (flip m)

plain-distinct : (v : View) (len : ℕ) → Plain v len → apart v.rows v.cols v.rs v.cs ≡ true → overlaps v ≡ false
plain-distinct v len p h =
    overlaps-is v
    ∙ (λ i. meets v.rows ((short-is v.rs p.down-rows.1).size i) v.cols ((short-is v.cs p.along-cols.1).size i))
    ∙ apart-meets v.rows v.cols v.rs v.cs h

-- what a matrix that is written is
pub record Target (v : View) (len : ℕ) : Type 0 where
  pub accepted : Accepted v len
  pub distinct : overlaps v ≡ false

pub written_is : (v : View) (len : ℕ) → small v ≡ true → written v len ≡ true → Target v len
unfolding written
written_is v len s h =
    let p = plain-is v len s (search each) in
    record { accepted = fits-plain v len p; distinct = plain-distinct v len p (search each) }

-- ---- vectors

-- a column of n elements by its stride, or a row
data Along (v : View) (n : ℕ) : ℤ → Type 0 where
  standing : v.rows ≡ n → v.cols ≡ 1 → Along v n v.rs
  lying : v.cols ≡ n → v.rows ≡ 1 → Along v n v.cs

along : (v : View) (n : ℕ) → short (stride_of v n) ≡ true → Along v n (stride_of v n)
unfolding stride_of short
along v n h = at (shaped v n 1) refl (shaped v 1 n) refl h
  where
    at : (p : Bool) → shaped v n 1 ≡ p → (q : Bool) → shaped v 1 n ≡ q → short (cond p v.rs (cond q v.cs (negsuc 0))) ≡ true → Along v n (cond p v.rs (cond q v.cs (negsuc 0)))
    at true e q f t = let z = shaped-sizes v n 1 e in standing z.0 z.1
    at false e true f t = let z = shaped-sizes v 1 n f in lying z.1 z.0
    at false e false f t = absurd (false≢true t)

-- what a vector of length n is
pub record Line (v : View) (n len : ℕ) : Type 0 where
  pub accepted : Accepted v len
  pub vector : vector_of v n ≡ true

column-line : (v : View) (n len : ℕ) → v.rows ≡ n → v.cols ≡ 1 → Run n v.rs → v.start + reach n v.rs < len → Line v n len
column-line v n len p q r h =
    let k = few-is n r.0 in
    record {
      accepted = record {
        rows-le = omega (arith, k.within);
        cols-le = omega arith;
        fits = extent-fits v len (n - 1) 0 (omega (arith, k.some)) (omega arith) (omega arith)
            (omega (arith, zero-mul (up v.cs)))
            (omega (arith, ap (λ (d : ℕ). (n - 1) * d) (short-is v.rs r.1).forward, mul-zero (n - 1), zero-mul (down v.cs)));
      };
      vector = sym (length-is v n n (thin-cols v (omega arith)) (ap (λ (m : ℕ). v.rows * m) q ∙ mul-one v.rows ∙ p)) ∙ eq-eqb n n refl;
    }

column-distinct : (v : View) → v.cols ≡ 1 → short v.rs ≡ true → 0 < up v.rs → overlaps v ≡ false
column-distinct v q r h =
    let e = ap (λ (m : ℕ). (m - 1) * nat_abs v.cs) q in
    overlaps-is v
    ∙ no-meeting v.rows (nat_abs v.rs) v.cols (nat_abs v.cs)
    (each-past v.rows (nat_abs v.rs) v.cols (nat_abs v.cs)
    (omega (arith, zero-mul (nat_abs v.cs)))
    (omega (arith, (short-is v.rs r).size, zero-mul (nat_abs v.cs))))

-- a row is a column of the transposed view
line : (v : View) (n : ℕ) (z : ℤ) (len : ℕ) → Along v n z → Run n z → v.start + reach n z < len → Line v n len
line v n z len (standing p q) r h = column-line v n len p q r h
line v n z len (lying p q) r h =
    let w = column-line (transposed_of v) n len p q r h in
    record { accepted = transposed-accepted (transposed_of v) len w.accepted; vector = sym (turned-vector v n) ∙ w.vector }

line-distinct : (v : View) (n : ℕ) (z : ℤ) → Along v n z → short z ≡ true → 0 < up z → overlaps v ≡ false
line-distinct v n z (standing p q) r h = column-distinct v q r h
line-distinct v n z (lying p q) r h = sym (turned-overlaps v) ∙ column-distinct (transposed_of v) q r h

pub vector-is : (v : View) (n len : ℕ) → few n ≡ true → plain_vector v n len ≡ true → Line v n len
unfolding plain_vector reaches
vector-is v n len k h =
    let s : short (stride_of v n) ≡ true = search each in
    line v n (stride_of v n) len (along v n s) (k, s) (ltb-true (v.start + reach n (stride_of v n)) len (search each))

-- what a vector of length n that is written is
pub record LineTarget (v : View) (n len : ℕ) : Type 0 where
  pub accepted : Accepted v len
  pub vector : vector_of v n ≡ true
  pub distinct : overlaps v ≡ false

pub target_is : (v : View) (n len : ℕ) → few n ≡ true → written_vector v n len ≡ true → LineTarget v n len
unfolding written_vector plain_vector
target_is v n len k h =
    let w = vector-is v n len k (search each) in
    let s = reaches-short v.start n (stride_of v n) len (search each) in
    record {
      accepted = w.accepted;
      vector = w.vector;
      distinct = line-distinct v n (stride_of v n) (along v n s) s (ltb-true 0 (up (stride_of v n)) (search each));
    }
