-- What the quick tests say of a size and of a stride.
use mathlib.Core.Path.{◌≡◌, refl, sym, ◌∙◌, ap}
use mathlib.Core.Bool.{true, not, false≢true}
use Prim.Native.Nat.{ℕ, zero, suc, ◌^◌, ◌≤◌, ◌<◌}
use native.Mathlib.Nat.{mul-le-mul}
use native.Mathlib.Omega.{arith}
use lib.Dec.{ltb, leb, eqb}
use lib.IntN.{ℤ, pos, negsuc, nat_abs}
use mir.Syntax.{w64}
use mir.Val.{of_z}
use borrow.Author.Tests.{ltb-true, leb-true, lt-ltb, ne_eqb}
use Rattle.view.proofs.AnyLaws.{and_left, and_right}
use Rattle.view.specs.declared.View.{View}
use Rattle.view.specs.Refusals.{limit}
use Rattle.view.specs.Steps.{up, down}
use Rattle.call_check.specs.Quick.{few, short, leads, reach, Run, reaches, plain_vector, stride_of}

-- ---- each test of a row that was passed

pub ruleset each = (and_left, and_right)

-- ---- a size

pub record Few (n : ℕ) : Type 0 where
  pub some : 0 < n
  pub within : n ≤ limit

pub few-is : (n : ℕ) → few n ≡ true → Few n
unfolding few
few-is n h = record {
  some = ltb-true 0 n (and_left (ltb 0 n) (leb n limit) h);
  within = leb-true n limit (and_right (ltb 0 n) (leb n limit) h);
}

-- ---- a stride

pub record Short (z : ℤ) : Type 0 where
  pub forward : down z ≡ 0
  pub below : up z < 2 ^ 30
  pub size : nat_abs z ≡ up z

pub short-is : (z : ℤ) → short z ≡ true → Short z
unfolding short
short-is (pos n) h =
    record { forward = refl; below = ltb-true n (2 ^ 30) h; size = refl }
short-is (negsuc n) h = absurd (false≢true h)

-- a stride that is not 0 leads on
pub leads-is : (z : ℤ) → short z ≡ true → not (eqb (of_z w64 z) 0) ≡ leads z
unfolding short
leads-is (pos zero) h = refl
leads-is (pos (suc n)) h = ap not (ne_eqb (suc n) 0 (none n)) ∙ sym (lt-ltb 0 (suc n) (omega arith))
  where
    none : (n : ℕ) → suc n ≡ 0 → ⊥
    none n e = omega arith
leads-is (negsuc n) h = absurd (false≢true h)

-- ---- runs of elements

pub reach-le : (n : ℕ) (z : ℤ) → Run n z → reach n z ≤ 2 ^ 36
reach-le n z r =
    mul-le-mul {n₂ = 64} {m₂ = 2 ^ 30} (omega (arith, (few-is n r.0).within)) (omega (arith, (short-is z r.1).below))

pub reaches-short : (start n : ℕ) (z : ℤ) (len : ℕ) → reaches start n z len ≡ true → short z ≡ true
unfolding reaches
reaches-short start n z len h = search each

pub vector-short : (v : View) (n len : ℕ) → plain_vector v n len ≡ true → short (stride_of v n) ≡ true
unfolding plain_vector
vector-short v n len h = reaches-short v.start n (stride_of v n) len h

-- ---- the same facts, one by one

pub few-some : (n : ℕ) → few n ≡ true → 1 ≤ n
few-some n h = omega (arith, (few-is n h).some)

pub short-up : (z : ℤ) → short z ≡ true → z ≡ pos (up z)
unfolding short
short-up (pos n) h = refl
short-up (negsuc n) h = absurd (false≢true h)

pub short-below : (z : ℤ) → short z ≡ true → up z < 2 ^ 30
short-below z h = (short-is z h).below

pub ruleset strides = (few-some, short-up, short-below, reach-le)

pub ruleset leading = (vector-short, leads-is)
