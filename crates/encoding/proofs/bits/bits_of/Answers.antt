-- A NaN has the quiet one's bits.
use Rattle.std.proofs.Common.{sym, ◌∙◌}
use Rattle.encoding.proofs.Nan.{bits-nan}
use Rattle.encoding.proofs.bits.bits_of.Goals as goal

pub returns-then-is_nan : goal.returns-then-is_nan
returns-then-is_nan c = bits-nan c.args.x (sym c.if-is_nan.true ∙ c.is_nan.ensures.value)
