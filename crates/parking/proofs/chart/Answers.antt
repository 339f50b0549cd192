use mathlib.Core.Bool.{true, false}
use mathlib.Core.Path.{◌≡◌}
use Rattle.std.proofs.Common.{rules}
use Rattle.parking.proofs.Parks.{is_done}
use Rattle.parking.proofs.Charting.{chart_done, chart_refused}
use Rattle.parking.proofs.chart.Goals as goal

pub returns-then-eq : goal.returns-then-eq
returns-then-eq c =
    let done : is_done c.build-built.result.answer ≡ true = search rules in
    chart_done _ _ _ _ _ _ c.build-built.ensures done _ (rw c.refused-unasked.ensures at c.ask-last.ensures)

pub returns-else-eq : goal.returns-else-eq
returns-else-eq c =
    let refused : is_done c.build-built.result.answer ≡ false = search rules in
    rw c.refused-unasked.ensures (chart_refused _ _ _ _ _ _ c.build-built.ensures refused)
