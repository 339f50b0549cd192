use mathlib.Core.Path.{ap, ◌∙◌}
use native.Mathlib.Omega.{arith}
use lib.Ieee.{nan, of_bits}
use Rattle.std.specs.Option.{unwrap_or}
use Rattle.given.proofs.number.Goals as goal

pub returns : goal.returns
unfolding of_bits
returns c = c.unwrap_or.ensures ∙ ap (λ x. unwrap_or x nan) c.copied.ensures ∙ c.get.ensures.lookup.4 (omega arith) nan
