use native.Mathlib.Omega.{arith}
use Rattle.legs.proofs.Difference.{without_is}
use Rattle.legs.proofs.without.Goals as goal

pub returns : goal.returns
returns c = without_is _ _ (omega arith) (omega arith)
