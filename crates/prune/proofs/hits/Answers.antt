use mathlib.Core.Path.{◌∙◌}
use native.Mathlib.Omega.{arith}
use Rattle.motion.proofs.Search.{steps_few}
use Rattle.prune.proofs.Points.{hit_many, hit_near, hit_walk}
use Rattle.prune.proofs.hits.Goals as goal

pub returns-in_default : goal.returns-in_default
returns-in_default c = hit_many _ _ _ _ c.in_default.ensures

pub returns-then-n-le1 : goal.returns-then-n-le1
returns-then-n-le1 c = c.covers.ensures ∙ hit_near _ _ _ _ _ c.in-Some.ensures c.if-n-le1.true

pub overflow_cast-n : goal.overflow_cast-n
overflow_cast-n c = omega (arith, steps_few _ _ _ _ c.in-Some.ensures)

pub meets-requires : goal.meets-requires
meets-requires c = steps_few _ _ _ _ c.in-Some.ensures

pub returns : goal.returns
returns c = c.meets.ensures ∙ hit_walk _ _ _ _ _ c.in-Some.ensures c.if-n-le1.false
