-- The literals 0.0 and 1.0, as the machine has them, are ZERO and ONE. Assumes nothing.
use mathlib.Core.Path.{◌≡◌, refl}
use lib.Ieee.{Format, binary32, binary64, of_bits}
use Rattle.number.specs.Kind.{zero_float, one_float}

pub zero_literal : (f : Format) → of_bits f 0 ≡ zero_float
unfolding of_bits
zero_literal binary32 = refl
zero_literal binary64 = refl

pub one_literal32 : of_bits binary32 0x3f80_0000 ≡ one_float
unfolding of_bits
one_literal32 = refl

pub one_literal64 : of_bits binary64 0x3ff0_0000_0000_0000 ≡ one_float
unfolding of_bits
one_literal64 = refl
