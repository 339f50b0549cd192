-- What a call of a script leaves of the PRM planner.
use Rattle.std.specs.Prelude.{List, Result, is_ok, Float}
use Rattle.keep_out_table.specs.declared.KeepOuts.{KeepOuts}
use Rattle.grammar.specs.Calls.{Left, prm_call}
use Rattle.given.specs.Given.{state_at, goal_at, fields_in_of, first_in}
use Rattle.script.specs.declared.line.Line.{Line}
use Rattle.script.specs.declared.line.NoCall.{NoCall}
use Rattle.prm.specs.declared.Prm.{Prm}
use Rattle.prm.specs.Planner.{View, planner_of, setup_of, goals_of}
use Rattle.prm.specs.Construct.{construct_of}
use Rattle.prm.specs.Adding.{add_of}

-- the planner after a call, and whether it was made
abbrev pub left_by : Prm → Result (Unit {0}) NoCall → Left View
left_by p r = record { made = is_ok r; planner = planner_of p }

unfoldable pub setup_from : View → List Float → KeepOuts → View
setup_from v l table = let f = fields_in_of l in (setup_of v f.limits f.segment f.reach f.start f.goal table).planner

unfoldable pub keepout_from : View → KeepOuts → View
keepout_from v table = (add_of v (first_in table)).planner

unfoldable pub construct_from : View → List Float → View
construct_from v samples = (construct_of v samples).planner

unfoldable pub goals_from : View → List Float → View
goals_from v l = (goals_of v (state_at l 0) (goal_at l 3)).planner

unfoldable pub call_of : View → Line → Left View
call_of v line =
    let l = line.numbers.now in
    prm_call v (setup_from v l line.table) (keepout_from v line.table) (construct_from v l) (goals_from v l) line.verb
