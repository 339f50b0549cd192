use Rattle.state.proofs.Size.{has_bits, of_bits_number, larger, no_larger, no_number_larger}
use Rattle.state.proofs.widened.Goals as goal

pub float_to_bits-bits : goal.float_to_bits-bits
float_to_bits-bits c = has_bits _ _ c.if-e.true

pub float_from_bits-size : goal.float_from_bits-size
float_from_bits-size c = of_bits_number _ _ c.if-e.true

pub returns-then-m-size : goal.returns-then-m-size
returns-then-m-size c = larger _ _ c.if-e.true _ c.requires c.if-m-size.true

pub returns-else-m-size : goal.returns-else-m-size
returns-else-m-size c = (no_larger _ _ c.if-e.true _ c.requires c.if-m-size.false, c.requires)

pub returns-else-e : goal.returns-else-e
returns-else-e c = (no_number_larger _ _ _ c.if-e.false, c.requires)
