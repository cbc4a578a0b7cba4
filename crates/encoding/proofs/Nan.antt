-- NaNs and their bit patterns. Assumes nothing.
use Rattle.std.proofs.Common.{◌≡◌, refl, sym, subst, ◌∙◌, true, ℕ, T}
use Rattle.std.specs.Prelude.{Float}
use Rattle.std.specs.Float.{Format, binary64, nan}
use Rattle.std.specs.Float.Ieee.{is_nan, nan_bits, of_bits, to_bits}
use lib.Ieee.{inf, fin}
use lib.Ieee.Bits.{nan_bits_is}

pub only_nan : (x : Float) → true ≡ is_nan x → x ≡ nan
unfolding is_nan
only_nan nan h = refl
only_nan (inf s) h = absurd (subst T h tt)
only_nan (fin s m e) h = absurd (subst T h tt)

-- the patterns of NaNs are all of one number
pub same_nan : (f : Format) (m n : ℕ) → true ≡ nan_bits f m → true ≡ nan_bits f n → of_bits f m ≡ of_bits f n
same_nan f m n h k = only_nan (of_bits f m) (h ∙ nan_bits_is f m) ∙ sym (only_nan (of_bits f n) (k ∙ nan_bits_is f n))

-- the bits of a NaN
pub bits-nan : (x : Float) → true ≡ is_nan x → 0x7ff8_0000_0000_0000 ≡ to_bits binary64 x
unfolding to_bits
bits-nan x h = subst (λ (y : Float). 0x7ff8_0000_0000_0000 ≡ to_bits binary64 y) (sym (only_nan x h)) refl
