-- What the constructor answers: the state where its numbers are good.
use Rattle.std.specs.Prelude.{Option, Some, None, cond, Float}
use Rattle.state.specs.Ranges.{good_state}
use Rattle.state.specs.declared.State.{State}

unfoldable pub state_of : Float → Float → Float → Option State
state_of az el feed =
    let s : State = record { az = az; el = el; feed = feed } in
    cond (good_state s) (Some s) None
