use mathlib.Core.Bool.{true, false}
use mathlib.Core.Path.{◌≡◌}
use Rattle.std.proofs.Common.{rules}
use Rattle.rrt_star.specs.Planner.{planner_of, told_of}
use Rattle.rrt_star.specs.Solve.{solve_of}
use Rattle.host.specs.Call.{star_told, star_call}
use Rattle.host.proofs.Calls.{is_done, call_unknown, call_refused, call_solved}
use Rattle.host.proofs.rindmosaic_star.Goals as goal
use Rattle.host.proofs.rindmosaic_star.Goals.{After-setup-told}

-- what the setup told, of the fields that stand in the numbers
told_is : (c : After-setup-told) → told_of c.setup-told.new.self c.setup-told.result ≡ star_told c.args.setup.now c.args.search_radius (planner_of c.new-star.result) c.table_of-table.result
told_is c = rw c.fields_in-f.ensures at c.setup-told.ensures

pub returns-then-not-are_known : goal.returns-then-not-are_known
unfolding star_call
returns-then-not-are_known c =
    call_unknown solve_of (star_told c.args.setup.now c.args.search_radius) _ _ _ _ _ _ c.table_of-table.ensures _ c.are_known.ensures c.if-not-are_known.true _ c.refused.ensures

pub returns-then-ne : goal.returns-then-ne
unfolding star_call
returns-then-ne c =
    let refused : is_done c.setup-told.result ≡ false = search rules in
    call_refused solve_of (star_told c.args.setup.now c.args.search_radius) _ _ _ _ _ _ c.table_of-table.ensures _ c.are_known.ensures c.if-not-are_known.false _ c.new-star.ensures
    _ (told_is (goal.at.returns-then-ne c).After-setup-told) refused _ c.refused-then-ne.ensures

pub returns : goal.returns
unfolding star_call
returns c =
    let done : is_done c.setup-told.result ≡ true = search rules in
    call_solved solve_of (star_told c.args.setup.now c.args.search_radius) _ _ _ _ _ _ c.table_of-table.ensures _ c.are_known.ensures c.if-not-are_known.false _ c.new-star.ensures
    _ (told_is (goal.at.returns c).After-setup-told) done _ _ _ c.solve.ensures _ c.reported.ensures
