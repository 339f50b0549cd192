-- Document 01, "The mount", Interpolation, and "Tree step": the new state.
use Rattle.std.specs.Prelude.{cond, Float}
use Rattle.std.specs.Float.{binary64}
use Rattle.std.specs.Float.Ieee.{add, sub, mul, div, lt}
use Rattle.state.specs.Distance.{distance_of}
use Rattle.state.specs.declared.State.{State}

-- from + (to - from) * t, three rounded operations in that order
abbrev pub along_of : Float → Float → Float → Float
along_of from to t = add binary64 from (mul binary64 (sub binary64 to from) t)

unfoldable pub interpolate_of : State → State → Float → State
interpolate_of from to t =
    record { az = along_of from.az to.az t; el = along_of from.el to.el t; feed = along_of from.feed to.feed t }

-- if the least distance exceeds max_distance, the interpolation from that node at t = max_distance / least; otherwise the sample itself
unfoldable pub steer_by_of : Float → Float → State → State → State
steer_by_of max least near sample = cond (lt max least) (interpolate_of near sample (div binary64 max least)) sample

unfoldable pub steer_of : Float → State → State → State
steer_of max near sample = steer_by_of max (distance_of near sample) near sample
