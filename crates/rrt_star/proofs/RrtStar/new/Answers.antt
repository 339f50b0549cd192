use Rattle.plan.proofs.Usable.{usable_no}
use Rattle.plan.proofs.Views.{view_unset}
use Rattle.rrt_star.specs.Planner.{planner_of}
use mathlib.Core.Path.{sym}
use Rattle.rrt_star.proofs.RrtStar.new.Goals as goal

pub returns : goal.returns
unfolding planner_of
returns c = view_unset _ _ _ (sym (usable_no _ _ c.none.ensures))
