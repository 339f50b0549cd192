-- Document 01, "Sizes and answers", for RRT*: the route buffer needs 1,536 numbers, and the run gives 0, 3 or 4.
use Rattle.std.specs.Prelude.{ℕ, List, Float}
use Rattle.state.specs.declared.State.{State}
use Rattle.plan.specs.Solve.{Ended, Outcome, solve_with}
use Rattle.star.specs.Grow.{Costed}
use Rattle.star_run.specs.Run.{StarPlan, run_of}
use Rattle.rrt_star.specs.Planner.{View}

-- the length that a route buffer needs
abbrev pub needed : ℕ
needed = 1536

abbrev pub run_from : StarPlan → Costed → List State → Ended Costed
run_from plan tree samples = run_of plan tree 0 samples

unfoldable pub solve_of : View → List Float → List Float → Outcome StarPlan Costed
solve_of planner samples route = solve_with needed run_from planner samples route
