-- States in a list: trees and roadmaps hold theirs in tables.
use Rattle.std.specs.Prelude.{ℕ, List, get_or, Float}
use Rattle.std.specs.Float.{nan}
use Rattle.state.specs.declared.State.{State}

-- no number on any axis: what stands past the end of a list
abbrev pub nowhere : State
nowhere = record { az = nan; el = nan; feed = nan }

-- the state at the index k; past the end no number
abbrev pub state_at : List State → ℕ → State
state_at l k = get_or l k nowhere
