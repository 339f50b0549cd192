-- Document 01, "Sizes and answers": sample lists are f64, length a multiple of 3; "The mount": an input coordinate is accepted in its range.
use Rattle.std.specs.Prelude.{◌%◌, Bool, ◌&&◌, List, [], ◌∷◌, eqb, length, get_or, Float}
use Rattle.std.specs.Float.{nan}
use Rattle.std.specs.List.{list_all}
use Rattle.state.specs.Ranges.{coordinate_of}
use Rattle.state.specs.declared.State.{State}

unfoldable pub good_samples : List Float → Bool
good_samples l = eqb (length l % 3) 0 && list_all coordinate_of l

-- three numbers to a state; one or two left over are no state
unfoldable pub samples_of : List Float → List State
samples_of [] = []
samples_of (x ∷ []) = []
samples_of (x ∷ y ∷ []) = []
samples_of (x ∷ y ∷ z ∷ rest) = record { az = x; el = y; feed = z } ∷ samples_of rest

-- the state of three numbers
abbrev pub sample_of : List Float → State
sample_of l = record { az = get_or l 0 nan; el = get_or l 1 nan; feed = get_or l 2 nan }
