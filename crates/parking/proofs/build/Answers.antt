use mathlib.Core.Bool.{true, false}
use mathlib.Core.Path.{◌≡◌}
use Rattle.std.proofs.Common.{rules}
use Rattle.parking.proofs.Parks.{is_done, build_parked, build_refused}
use Rattle.parking.proofs.build.Goals as goal

pub returns-then-ne : goal.returns-then-ne
returns-then-ne c =
    let refused : is_done c.construct_roadmap-built.result.answer ≡ false = search rules in
    build_refused _ _ _ _ _ _ _ c.construct_roadmap-built.ensures refused

pub returns : goal.returns
returns c =
    let done : is_done c.construct_roadmap-built.result.answer ≡ true = search rules in
    build_parked _ _ _ _ _ _ _ c.construct_roadmap-built.ensures done _ c.park.ensures
