use mathlib.Core.Path.{◌≡◌}
use Rattle.prm.specs.Planner.{planner_of}
use Rattle.prm.specs.Query.{queried_of}
use Rattle.parking.specs.Chart.{queries_of}
use Rattle.parking.proofs.ask.Given as goal

-- after so many queries, the answer and the route are theirs
abbrev pub invariant-loop : goal.invariant-loop
invariant-loop l = queried_of l.last l.route ≡ queries_of (planner_of l.planner) l.counter (queried_of l.initial.last l.initial.route)
