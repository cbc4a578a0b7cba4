-- When a number has a bit pattern: the same bits, NaNs being alike. Assumes nothing.
use Rattle.std.specs.Prelude.{ℕ, Bool, true, false, eqb, Float}
use Rattle.std.specs.Float.{Format}
use Rattle.std.specs.Float.Ieee.{is_nan, nan_bits, to_bits}

abbrev pub pick : Bool → Bool → Bool → Bool
pick true a b = a
pick false a b = b

abbrev pub alike : Format → Float → ℕ → Bool
alike f x n = pick (is_nan x) (nan_bits f n) (eqb (to_bits f x) n)
