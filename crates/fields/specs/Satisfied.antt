-- Document 01, "The mount", Goal: satisfied when the distance from state to centre is at most the radius.
use Rattle.std.specs.Prelude.{Bool}
use Rattle.std.specs.Float.Ieee.{le}
use Rattle.state.specs.Distance.{distance_of}
use Rattle.state.specs.declared.State.{State}
use Rattle.fields.specs.declared.Goal.{Goal}

unfoldable pub satisfied_of : Goal → State → Bool
satisfied_of g s = le (distance_of s g.centre) g.radius
