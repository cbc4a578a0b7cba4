-- The products, rank updates and triangular products of f64 and of complex are exact on whole numbers of document 01's range.
use Prim.Native.Nat.{ℕ, ◌*◌, ◌^◌}
use native.Mathlib.Nat.{le-max_left, le-max_right}
use native.Mathlib.Omega.{arith}
use lib.Dec.{lit≤}
use lib.IntN.{nat_abs}
use Rattle.number.specs.Kind.{real64, complex}
use Rattle.number.specs.Integers.{integers, gaussian}
use Rattle.number.proofs.Instances.{real64-laws, complex-laws, real64-exact, complex-exact}
use Rattle.view.specs.Refusals.{limit}
use Rattle.theorems.specs.Exactness.{largest_part, largest_scalar_part, real_wholes, complex_wholes}
use Rattle.theorems.specs.ExactProducts.{ProductsExact}
use Rattle.theorems.specs.ExactRank.{RankExact}
use Rattle.theorems.specs.ExactTriangles.{TrianglesExact}
use Rattle.theorems.proofs.IntegerRings.{integers-ring, gaussian-ring}
use Rattle.theorems.proofs.ExactBasis.{Room, room-less, Basis}
use Rattle.theorems.proofs.ExactRoutines.{products-exact, rank-exact, triangles-exact}

-- ---- the room that the range leaves below 2 ^ 53, for numbers of one part and of two, with two products for each index

abbrev pub RoomFor : ℕ → ℕ → Type 0
RoomFor parts n = Room (2 ^ 53) (2 * n) (parts * largest_part) (parts * largest_scalar_part)

pub real-room : RoomFor 1 limit
real-room = record { some = omega arith; room = omega arith }

pub complex-room : RoomFor 2 limit
complex-room = record { some = omega arith; room = omega arith }

-- there is room for 512 rows and columns too
pub real-room-512 : RoomFor 1 512
real-room-512 = record { some = omega arith; room = omega arith }

pub complex-room-512 : RoomFor 2 512
complex-room-512 = record { some = omega arith; room = omega arith }

-- ---- the instances

abbrev pub real64-basis : Basis real64 integers
real64-basis =
    record {
      laws = real64-laws;
      exact = real64-exact;
      ring = integers-ring;
      magnitude = nat_abs;
      factor_magnitude = nat_abs;
      parts = 1;
      size-le = λ z. omega arith;
      factor-size-le = λ v. omega arith;
      size-one = lit≤ tt;
      room = λ n h. room-less (2 ^ 53) (2 * limit) n _ _ h real-room;
    }

abbrev pub complex-basis : Basis complex gaussian
complex-basis =
    record {
      laws = complex-laws;
      exact = complex-exact;
      ring = gaussian-ring;
      magnitude = complex_wholes.magnitude;
      factor_magnitude = nat_abs;
      parts = 2;
      size-le = λ z. omega (arith, le-max_left (nat_abs z.re) (nat_abs z.im), le-max_right (nat_abs z.re) (nat_abs z.im));
      factor-size-le = λ v. omega arith;
      size-one = lit≤ tt;
      room = λ n h. room-less (2 ^ 53) (2 * limit) n _ _ h complex-room;
    }

pub real64-products-exact : ProductsExact real_wholes
real64-products-exact = products-exact real64-basis

pub complex-products-exact : ProductsExact complex_wholes
complex-products-exact = products-exact complex-basis

pub real64-rank-exact : RankExact real_wholes
real64-rank-exact = rank-exact real64-basis

pub complex-rank-exact : RankExact complex_wholes
complex-rank-exact = rank-exact complex-basis

pub real64-triangles-exact : TrianglesExact real_wholes
real64-triangles-exact = triangles-exact real64-basis

pub complex-triangles-exact : TrianglesExact complex_wholes
complex-triangles-exact = triangles-exact complex-basis
