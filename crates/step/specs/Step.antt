-- Document 01, "Tree step". Nearest node. If the least distance exceeds max_distance, the new state is the interpolation from that node
-- at t = max_distance / least; otherwise the sample itself, equality included. Then the motion check from nearest to new.
use Rattle.std.specs.Prelude.{not, List, Float}
use Rattle.std.specs.Float.Ieee.{lt}
use Rattle.state.specs.Steering.{steer_by_of}
use Rattle.state.specs.Rows.{state_at}
use Rattle.state.specs.declared.State.{State}
use Rattle.fields.specs.declared.Limits.{Limits}
use Rattle.keep_out.specs.declared.KeepOut.{KeepOut}
use Rattle.motion.specs.Accepts.{accepts_of}
use Rattle.nearest.specs.declared.Near.{Near}
use Rattle.step.specs.declared.Stepped.{Stepped}
use Rattle.nearest.specs.Nearest.{nearest_of}

-- from the nearest node, at its distance
unfoldable pub step_from : Limits → Float → List KeepOut → Float → State → Near → State → Stepped
step_from limits segment ks max from near sample =
    let at = steer_by_of max near.far from sample in
    record { at = at; parent = near.index; reached = not (lt max near.far); accepted = accepts_of limits segment ks from at }

unfoldable pub step_of : Limits → Float → List KeepOut → Float → List State → State → Stepped
step_of limits segment ks max states sample =
    let near = nearest_of states sample in
    step_from limits segment ks max (state_at states near.index) near sample
