-- What a call of a script leaves of the RRT* planner.
use Rattle.std.specs.Prelude.{ℕ, List, take, Result, is_ok, Float}
use Rattle.keep_out_table.specs.declared.KeepOuts.{KeepOuts}
use Rattle.grammar.specs.Calls.{Left, tree_call}
use Rattle.given.specs.Given.{length_at, state_at, goal_at, limits_in, first_in}
use Rattle.route_buffer.specs.Buffer.{fresh_of}
use Rattle.script.specs.declared.line.Line.{Line}
use Rattle.script.specs.declared.line.NoCall.{NoCall}
use Rattle.rrt_star.specs.declared.RrtStar.{RrtStar}
use Rattle.rrt_star.specs.Planner.{View, planner_of, setup_of, add_of}
use Rattle.rrt_star.specs.Solve.{solve_of}

-- the planner after a call, and whether it was made
abbrev pub left_by : RrtStar → Result (Unit {0}) NoCall → Left View
left_by p r = record { made = is_ok r; planner = planner_of p }

-- one number more than the other tree planners: search_radius, after max_distance
unfoldable pub setup_from : View → List Float → KeepOuts → View
setup_from v l table = (setup_of v (limits_in l) (length_at l 6) (length_at l 7) (length_at l 8) (state_at l 9) (goal_at l 12) table).planner

unfoldable pub keepout_from : View → KeepOuts → View
keepout_from v table = (add_of v (first_in table)).planner

-- the route buffer is the first `capacity` numbers of a fresh one
unfoldable pub solve_from : View → ℕ → List Float → View
solve_from v capacity samples = (solve_of v samples (take capacity fresh_of)).planner

unfoldable pub call_of : View → Line → Left View
call_of v line =
    let l = line.numbers.now in
    tree_call v (setup_from v l line.table) (keepout_from v line.table) (solve_from v line.capacity l) line.verb
