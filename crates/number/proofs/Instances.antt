-- The laws of the three kinds, and their exactness on whole numbers.
use Prim.Native.Nat.{ℕ, ◌/◌}
use mathlib.Core.Path.{ap}
use lib.Ieee.{binary32, binary64}
use Rattle.number.specs.Kind.{real64, real32, complex, real_numbers, complex_numbers}
use Rattle.number.specs.Integers.{integers, gaussian}
use Rattle.number.specs.Laws.{Laws, NumberLaws, Exact}
use Rattle.number.proofs.RealLaws.{real-laws}
use Rattle.number.proofs.RealExact.{real-exact}
use Rattle.number.proofs.Commutes.{real-commutes, complex-commutes}
use Rattle.number.proofs.SlabLaws.{real-slab, complex-slab, real-swaps, complex-swaps}
use Rattle.number.proofs.Negation.{neg-exact}
use Rattle.number.proofs.ComplexLaws
use Rattle.number.proofs.ComplexExact

pub real64-laws : Laws real64
real64-laws = real-laws binary64 (real-slab binary64)

pub real32-laws : Laws real32
real32-laws = real-laws binary32 (real-slab binary32)

pub complex-laws : Laws complex
complex-laws = ComplexLaws.complex-laws real64-laws complex-slab

abbrev pub real64-exact : Exact real64 integers
real64-exact = real-exact binary64

abbrev pub complex-exact : Exact complex gaussian
complex-exact = ComplexExact.complex-exact real64-laws real64-exact neg-exact

-- ---- with what a routine rests on beside them

pub real64_number-laws : NumberLaws (real_numbers binary64)
real64_number-laws = record { laws = real64-laws; commutes = real-commutes binary64; swaps = real-swaps binary64; counted = λ e. e }

pub real32_number-laws : NumberLaws (real_numbers binary32)
real32_number-laws = record { laws = real32-laws; commutes = real-commutes binary32; swaps = real-swaps binary32; counted = λ e. e }

pub complex_number-laws : NumberLaws complex_numbers
complex_number-laws = record { laws = complex-laws; commutes = complex-commutes; swaps = complex-swaps; counted = ap (λ (n : ℕ). n / 2) }
