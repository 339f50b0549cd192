use Rattle.rrt_star.proofs.Views.{size_set, size_unset}
use mathlib.Core.Path.{◌∙◌}
use Rattle.rrt_star.proofs.RrtStar.size.Goals as goal

pub returns-then-not-is_usable : goal.returns-then-not-is_usable
returns-then-not-is_usable c = size_unset _ c.if-not-is_usable.ensures

pub returns : goal.returns
returns c = c.len.ensures.nodes ∙ size_set _ c.if-not-is_usable.ensures
