-- What the numbers and keep-outs of a script's line, or of a host's setup, stand for. A place is that of the first number, from 0.
use Rattle.std.specs.Prelude.{ℕ, ◌+◌, List, get_or, Float}
use Rattle.std.specs.Float.{nan}
use Rattle.state.specs.declared.State.{State}
use Rattle.fields.specs.declared.Length.{Length}
use Rattle.fields.specs.declared.Goal.{Goal}
use Rattle.fields.specs.declared.Limits.{Limits}
use Rattle.given.specs.declared.Fields.{Fields}
use Rattle.keep_out.specs.declared.KeepOut.{KeepOut}
use Rattle.keep_out.specs.declared.KeepOut.TheVariants.{Floor}
use Rattle.keep_out_table.specs.declared.KeepOuts.{KeepOuts}

-- the number at a place; past the last one no number
abbrev pub number_at : List Float → ℕ → Float
number_at l i = get_or l i nan

unfoldable pub length_at : List Float → ℕ → Length
length_at l i = record { value = number_at l i }

-- azimuth, elevation, feed
unfoldable pub state_at : List Float → ℕ → State
state_at l i = record { az = number_at l i; el = number_at l (i + 1); feed = number_at l (i + 2) }

-- the centre, and then the radius
unfoldable pub goal_at : List Float → ℕ → Goal
goal_at l i = record { centre = state_at l i; radius = number_at l (i + 3) }

-- the first six numbers, low then high, per axis: document 01, "The mount", setup's fields in order
unfoldable pub limits_in : List Float → Limits
limits_in l =
    record {
      low = record { az = number_at l 0; el = number_at l 2; feed = number_at l 4 };
      high = record { az = number_at l 1; el = number_at l 3; feed = number_at l 5 };
    }

-- document 01, "The mount", setup's fields in order: limits, segment length, max_distance or connection_radius, start, goal
abbrev pub fields_in_of : List Float → Fields
fields_in_of l = record { limits = limits_in l; segment = length_at l 6; reach = length_at l 7; start = state_at l 8; goal = goal_at l 11 }

-- the keep-out in the table's first place; it has 32 places, so that the default is never read
unfoldable pub first_in : KeepOuts → KeepOut
first_in t = (get_or t.slots 0 (record { held = Floor nan })).held
