-- Document 01, "The mount": which limits, lengths and goals are taken. A comparison with a NaN is false, so what lies between two numbers is
-- finite.
use Rattle.std.specs.Prelude.{Bool, ◌&&◌, Float}
use Rattle.std.specs.Float.{binary64}
use Rattle.std.specs.Float.Ieee.{of_bits}
use Rattle.state.specs.Ranges.{inside_of, good_state, good_span}
use Rattle.fields.specs.declared.Limits.{Limits}
use Rattle.fields.specs.declared.Length.{Length}
use Rattle.fields.specs.declared.Goal.{Goal}

-- 0.001 and 4,096, the range of a length (`constants_are` in the crate examples computes what these bits are)
abbrev pub least_length : Float
least_length = of_bits binary64 0x3f50_624d_d2f1_a9fc

abbrev pub most_length : Float
most_length = of_bits binary64 0x40b0_0000_0000_0000

-- 0 and 4,096, the range of a goal's radius
abbrev pub least_radius : Float
least_radius = of_bits binary64 0

abbrev pub most_radius : Float
most_radius = of_bits binary64 0x40b0_0000_0000_0000

unfoldable pub good_limits : Limits → Bool
good_limits l = good_span l.low l.high

-- segment length, max_distance, search_radius and connection_radius lie from 0.001 to 4,096
unfoldable pub good_length : Length → Bool
good_length l = inside_of least_length most_length l.value

-- centre and radius 0 to 4,096
unfoldable pub good_goal : Goal → Bool
good_goal g = good_state g.centre && inside_of least_radius most_radius g.radius
