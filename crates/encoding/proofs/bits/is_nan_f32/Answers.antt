-- `nan_bits`, in one comparison.
use Rattle.std.proofs.Common.{sym}
use Rattle.std.specs.Float.{binary32}
use lib.Ieee.Bits.{nan_bits_above}
use Rattle.encoding.proofs.bits.is_nan_f32.Goals as goal

pub returns : goal.returns
returns c = sym (nan_bits_above binary32 _)
