use mathlib.Core.Path.{sym}
use Rattle.plan.proofs.Usable.{usable_some, usable_most, usable_ready, usable_count}
use Rattle.plan.proofs.Answers.{solve_unset, solve_room, solve_bad, solve_ran}
use Rattle.rrt_star.specs.Planner.{planner_of}
use Rattle.rrt_star.specs.Solve.{needed, run_from, solve_of}
use Rattle.rrt_star.proofs.RrtStar.solve.Goals as goal

pub returns-then-not-is_usable : goal.returns-then-not-is_usable
unfolding planner_of solve_of
returns-then-not-is_usable c = rw c.refused.ensures (solve_unset needed run_from _ _ _ _ _ (sym c.if-not-is_usable.ensures))

pub returns-then-route-lt-ROUTE : goal.returns-then-route-lt-ROUTE
unfolding planner_of solve_of
returns-then-route-lt-ROUTE c =
    rw c.refused-then-route-lt-ROUTE.ensures (solve_room needed run_from _ _ _ _ _ (sym c.if-not-is_usable.ensures) c.if-route-lt-ROUTE.true)

pub returns-then-not-are_good : goal.returns-then-not-are_good
unfolding planner_of solve_of
returns-then-not-are_good c =
    rw c.refused-then-not-are_good.ensures (solve_bad needed run_from _ _ _ _ _ (sym c.if-not-is_usable.ensures) c.if-route-lt-ROUTE.false (sym c.if-not-are_good.ensures))

pub run-requires : goal.run-requires
run-requires c =
    let u = sym c.if-not-is_usable.ensures in
    (usable_some _ _ u, usable_most _ _ u, c.if-route-lt-ROUTE.false)

pub returns : goal.returns
unfolding planner_of solve_of
returns c =
    let u = sym c.if-not-is_usable.ensures in
    let w = c.run.ensures in
    let still = usable_count _ _ (usable_ready _ _ u) w.some w.room in
    solve_ran needed run_from _ _ _ _ _ u c.if-route-lt-ROUTE.false w.ended w.is _ still (sym c.if-not-are_good.ensures) _ w.tree _ w.answer _ w.count _ w.taken _ w.memory
