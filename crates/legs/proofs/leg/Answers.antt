use Rattle.legs.specs.Bits.{bit_of, leg_at}
use borrow.Author.Rules.{rules}
use Rattle.legs.proofs.leg.Goals as goal

pub returns : goal.returns
unfolding leg_at bit_of
returns c = search rules
