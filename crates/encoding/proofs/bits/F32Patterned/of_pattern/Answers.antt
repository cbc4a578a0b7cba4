-- The patterns of NaNs are all of one number.
use Rattle.std.proofs.Common.{sym, ◌∙◌, refl}
use Rattle.std.specs.Float.{binary32}
use Rattle.std.specs.Float.Ieee.{nan_bits}
use Rattle.encoding.proofs.Nan.{same_nan}
use Rattle.encoding.proofs.bits.F32Patterned.of_pattern.Goals as goal

pub returns-then-is_nan_f32 : goal.returns-then-is_nan_f32
unfolding nan_bits
returns-then-is_nan_f32 c = same_nan binary32 2143289344 c.args.n refl (sym c.if-is_nan_f32.true ∙ c.is_nan_f32.ensures)
