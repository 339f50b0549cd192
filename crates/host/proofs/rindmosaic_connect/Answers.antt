use mathlib.Core.Bool.{true, false}
use mathlib.Core.Path.{◌≡◌}
use Rattle.std.proofs.Common.{rules}
use Rattle.rrt_connect.specs.Planner.{planner_of, told_of}
use Rattle.rrt_connect.specs.Solve.{solve_of}
use Rattle.host.specs.Call.{connect_told, connect_call}
use Rattle.host.proofs.Calls.{is_done, call_unknown, call_refused, call_solved}
use Rattle.host.proofs.rindmosaic_connect.Goals as goal
use Rattle.host.proofs.rindmosaic_connect.Goals.{After-setup-told}

-- what the setup told, of the fields that stand in the numbers
told_is : (c : After-setup-told) → told_of c.setup-told.new.self c.setup-told.result ≡ connect_told c.args.setup.now (planner_of c.new-connect.result) c.table_of-table.result
told_is c = rw c.fields_in-f.ensures at c.setup-told.ensures

pub returns-then-not-are_known : goal.returns-then-not-are_known
unfolding connect_call
returns-then-not-are_known c =
    call_unknown solve_of (connect_told c.args.setup.now) _ _ _ _ _ _ c.table_of-table.ensures _ c.are_known.ensures c.if-not-are_known.true _ c.refused.ensures

pub returns-then-ne : goal.returns-then-ne
unfolding connect_call
returns-then-ne c =
    let refused : is_done c.setup-told.result ≡ false = search rules in
    call_refused solve_of (connect_told c.args.setup.now) _ _ _ _ _ _ c.table_of-table.ensures _ c.are_known.ensures c.if-not-are_known.false _ c.new-connect.ensures
    _ (told_is (goal.at.returns-then-ne c).After-setup-told) refused _ c.refused-then-ne.ensures

pub returns : goal.returns
unfolding connect_call
returns c =
    let done : is_done c.setup-told.result ≡ true = search rules in
    call_solved solve_of (connect_told c.args.setup.now) _ _ _ _ _ _ c.table_of-table.ensures _ c.are_known.ensures c.if-not-are_known.false _ c.new-connect.ensures
    _ (told_is (goal.at.returns c).After-setup-told) done _ _ _ c.solve.ensures _ c.reported.ensures
