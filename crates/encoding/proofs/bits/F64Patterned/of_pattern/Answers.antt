-- The patterns of NaNs are all of one number.
use Rattle.std.proofs.Common.{sym, ◌∙◌, refl}
use Rattle.std.specs.Float.{binary64}
use Rattle.std.specs.Float.Ieee.{nan_bits}
use Rattle.encoding.proofs.Nan.{same_nan}
use Rattle.encoding.proofs.bits.F64Patterned.of_pattern.Goals as goal

pub returns-then-is_nan_f64 : goal.returns-then-is_nan_f64
unfolding nan_bits
returns-then-is_nan_f64 c = same_nan binary64 9221120237041090560 c.args.n refl (sym c.if-is_nan_f64.true ∙ c.is_nan_f64.ensures)
