-- What the constructors answer: the value where its numbers are good.
use Rattle.std.specs.Prelude.{Option, Some, None, cond, Float}
use Rattle.state.specs.declared.State.{State}
use Rattle.fields.specs.Ranges.{good_limits, good_length, good_goal}
use Rattle.fields.specs.declared.Limits.{Limits}
use Rattle.fields.specs.declared.Length.{Length}
use Rattle.fields.specs.declared.Goal.{Goal}

unfoldable pub limits_of : State → State → Option Limits
limits_of low high =
    let l : Limits = record { low = low; high = high } in
    cond (good_limits l) (Some l) None

unfoldable pub length_of : Float → Option Length
length_of value =
    let l : Length = record { value = value } in
    cond (good_length l) (Some l) None

unfoldable pub goal_of : State → Float → Option Goal
goal_of centre radius =
    let g : Goal = record { centre = centre; radius = radius } in
    cond (good_goal g) (Some g) None
