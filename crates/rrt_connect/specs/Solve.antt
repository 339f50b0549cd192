-- Document 01, "Sizes and answers", for RRT-Connect: the route buffer needs 3,069 numbers, and the run gives 0, 3 or 4.
use Rattle.std.specs.Prelude.{ℕ, List, Float}
use Rattle.state.specs.declared.State.{State}
use Rattle.plan.specs.Plan.{Plan}
use Rattle.plan.specs.Solve.{Ended, Outcome, solve_with}
use Rattle.turn.specs.Trees.{Trees}
use Rattle.rrt_connect.specs.Planner.{View}
use Rattle.connect_run.specs.Run.{run_of}

-- the length that a route buffer needs
abbrev pub needed : ℕ
needed = 3069

abbrev pub run_from : Plan → Trees → List State → Ended Trees
run_from plan trees samples = run_of plan trees 0 samples

unfoldable pub solve_of : View → List Float → List Float → Outcome Plan Trees
solve_of planner samples route = solve_with needed run_from planner samples route
