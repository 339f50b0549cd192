use mathlib.Core.Path.{sym}
use Rattle.std.proofs.lemmas.Float.{not_nan_f64_bits}
use lib.Ieee.{of_bits}
use Rattle.numeral.proofs.Patterns.{above_is_nan}
use Rattle.numeral.proofs.from_bits.Goals as goal

pub returns-then-bits-gt9218868437227405312 : goal.returns-then-bits-gt9218868437227405312
unfolding of_bits
returns-then-bits-gt9218868437227405312 c = sym (above_is_nan c.args.bits c.if-bits-gt9218868437227405312.true)

pub float_from_bits-result : goal.float_from_bits-result
float_from_bits-result c = not_nan_f64_bits _ c.if-bits-gt9218868437227405312.false
