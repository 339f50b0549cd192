-- Document 01, "Sizes and answers", for RRT: the route buffer needs 1,536 numbers, and the run gives 0, 3 or 4.
use Rattle.std.specs.Prelude.{ℕ, List, Float}
use Rattle.state.specs.declared.State.{State}
use Rattle.tree.specs.Table.{Nodes}
use Rattle.plan.specs.Plan.{Plan}
use Rattle.plan.specs.Solve.{Ended, Outcome, solve_with}
use Rattle.rrt.specs.Planner.{View}
use Rattle.rrt_run.specs.Run.{run_of}

-- the length that a route buffer needs
abbrev pub needed : ℕ
needed = 1536

abbrev pub run_from : Plan → Nodes → List State → Ended Nodes
run_from plan nodes samples = run_of plan nodes 0 samples

unfoldable pub solve_of : View → List Float → List Float → Outcome Plan Nodes
solve_of planner samples route = solve_with needed run_from planner samples route
