use mathlib.Core.Bool.{true, false}
use mathlib.Core.Path.{◌≡◌}
use Rattle.std.proofs.Common.{rules}
use Rattle.prm.specs.Planner.{planner_of, told_of}
use Rattle.parking.specs.Park.{build_of}
use Rattle.parking.specs.Chart.{chart_of}
use Rattle.host.specs.Call.{prm_told, prm_call}
use Rattle.host.proofs.Calls.{is_done, call_unknown, call_refused, call_solved}
use Rattle.host.proofs.rindmosaic_prm.Goals as goal
use Rattle.host.proofs.rindmosaic_prm.Goals.{After-setup-told}

-- what the setup told, of the fields that stand in the numbers
told_is : (c : After-setup-told) → told_of c.setup-told.new.self c.setup-told.result ≡ prm_told c.args.setup.now (planner_of c.new-prm.result) c.table_of-table.result
told_is c = rw c.fields_in-f.ensures at c.setup-told.ensures

pub returns-then-not-are_known_with : goal.returns-then-not-are_known_with
unfolding prm_call
returns-then-not-are_known_with c =
    call_unknown (chart_of (build_of _ _ _ _) _) (prm_told c.args.setup.now) _ _ _ _ _ _ c.table_of-table.ensures _ c.are_known_with.ensures c.if-not-are_known_with.true _ c.refused.ensures

pub returns-then-ne : goal.returns-then-ne
unfolding prm_call
returns-then-ne c =
    let refused : is_done c.setup-told.result ≡ false = search rules in
    call_refused (chart_of (build_of _ _ _ _) _) (prm_told c.args.setup.now) _ _ _ _ _ _ c.table_of-table.ensures _ c.are_known_with.ensures c.if-not-are_known_with.false _ c.new-prm.ensures
    _ (told_is (goal.at.returns-then-ne c).After-setup-told) refused _ c.refused-then-ne.ensures

pub returns : goal.returns
unfolding prm_call
returns c =
    let done : is_done c.setup-told.result ≡ true = search rules in
    call_solved (chart_of (build_of _ _ _ _) _) (prm_told c.args.setup.now) _ _ _ _ _ _ c.table_of-table.ensures _ c.are_known_with.ensures c.if-not-are_known_with.false _ c.new-prm.ensures
    _ (told_is (goal.at.returns c).After-setup-told) done _ _ _ c.chart.ensures _ c.reported.ensures
