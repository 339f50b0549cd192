-- Document 01, "The mount", Keep-outs: their numbers obey the coordinate range, a box's low is at most its high, a disc's radius is
-- from 0 to 1,024.
use Rattle.std.specs.Prelude.{Bool, ◌&&◌, Option, Some, None, cond, Float}
use Rattle.std.specs.Float.{binary64}
use Rattle.std.specs.Float.Ieee.{of_bits}
use Rattle.state.specs.Ranges.{inside_of, coordinate_of, good_span}
use Rattle.state.specs.declared.State.{State}
use Rattle.keep_out.specs.declared.KeepOut.{KeepOut}
use Rattle.keep_out.specs.declared.KeepOut.TheVariants.{Box, Disc, Floor}

-- 0 and 1,024
abbrev pub least_radius : Float
least_radius = of_bits binary64 0

abbrev pub most_radius : Float
most_radius = of_bits binary64 0x4090_0000_0000_0000

unfoldable pub good_disc : Float → Float → Float → Bool
good_disc az el r = coordinate_of az && coordinate_of el && inside_of least_radius most_radius r

unfoldable pub good_keep_out : KeepOut → Bool
good_keep_out (Box low high) = good_span low high
good_keep_out (Disc az el r) = good_disc az el r
good_keep_out (Floor el) = coordinate_of el

unfoldable pub made_of : KeepOut → Option KeepOut
made_of k = cond (good_keep_out k) (Some k) None

abbrev pub box_of : State → State → Option KeepOut
box_of low high = made_of (Box low high)

abbrev pub disc_of : Float → Float → Float → Option KeepOut
disc_of az el r = made_of (Disc az el r)

abbrev pub floor_of : Float → Option KeepOut
floor_of el = made_of (Floor el)
