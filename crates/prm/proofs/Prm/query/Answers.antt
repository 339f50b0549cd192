use Rattle.std.proofs.Common.{arith}
use Rattle.std.proofs.lemmas.Grind.{common_steps}
use Rattle.plan.specs.Plan.{view_of}
use Rattle.prm.specs.Planner.{planner_of}
use Rattle.prm.specs.Query.{query_of, found_of}
use Rattle.prm.proofs.Queries.{no_route}
use Rattle.prm.proofs.Prm.query.Goals as goal

pub returns-then-count-eq0 : goal.returns-then-count-eq0
unfolding planner_of view_of query_of found_of
returns-then-count-eq0 c = let same = no_route _ _ _ _ c.find_route-count.ensures c.if-count-eq0.true in grind (arith, common_steps)
