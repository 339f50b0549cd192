-- The call scripts, "Input": the table of lines, as what follows the two words of each. A planner's verb that has no line is no call.
-- `P` there is a planner, so that `mount keepout` and `mount tables` are none.
use Rattle.std.specs.Prelude.{ℕ, ◌+◌, Bool, true, false, Option, Some, None}
use Rattle.grammar.specs.declared.Numbers.{Numbers}
use Rattle.grammar.specs.declared.Numbers.TheVariants.{Exactly, Any}
use Rattle.grammar.specs.declared.Planner.{Planner}
use Rattle.grammar.specs.declared.Planner.TheVariants.{Mount, Rrt, Connect, Star, Prm}
use Rattle.grammar.specs.declared.Row.{Row}
use Rattle.grammar.specs.declared.Verb.{Verb}
use Rattle.grammar.specs.declared.Verb.TheVariants.{Setup, Keepout, Solve, Construct, Goals, Query, Tables, Distance, Between, Steer, Valid, Steps, Motion}

-- ---- how many numbers a part of a line is
-- low then high, per axis
abbrev LIM : ℕ
LIM = 6

-- azimuth, elevation, feed
abbrev S : ℕ
S = 3

abbrev SEG : ℕ
SEG = 1

abbrev MAX : ℕ
MAX = 1

abbrev SEARCH : ℕ
SEARCH = 1

abbrev CONNECT : ℕ
CONNECT = 1

abbrev RADIUS : ℕ
RADIUS = 1

abbrev T : ℕ
T = 1

-- ---- what follows the words
-- so many numbers, then `KO*`: a line has at most 40 keep-outs
abbrev pub setup_row : ℕ → Row
setup_row n = record { has_capacity = false; numbers = Exactly n; least_keep_outs = 0; most_keep_outs = 40 }

-- so many numbers
abbrev pub numbers_row : ℕ → Row
numbers_row n = record { has_capacity = false; numbers = Exactly n; least_keep_outs = 0; most_keep_outs = 0 }

-- `CAP` or not, then numbers
abbrev pub list_row : Bool → Numbers → Row
list_row capacity numbers = record { has_capacity = capacity; numbers = numbers; least_keep_outs = 0; most_keep_outs = 0 }

-- `KO`
abbrev pub keep_out_row : Row
keep_out_row = record { has_capacity = false; numbers = Exactly 0; least_keep_outs = 1; most_keep_outs = 1 }

-- ---- the lines
-- `mount`
unfoldable pub mount_row : Verb → Option Row
mount_row Setup = Some (setup_row (LIM + SEG))
mount_row Distance = Some (numbers_row (S + S))
mount_row Between = Some (numbers_row (S + S + T))
mount_row Steer = Some (numbers_row (MAX + S + S))
mount_row Valid = Some (numbers_row S)
mount_row Steps = Some (numbers_row (S + S))
mount_row Motion = Some (numbers_row (S + S))
mount_row _ = None

-- `rrt`, `connect` or `star`, by the numbers of its setup
unfoldable pub tree_row : ℕ → Verb → Option Row
tree_row n Setup = Some (setup_row n)
tree_row n Keepout = Some keep_out_row
tree_row n Solve = Some (list_row true Any)
tree_row n Tables = Some (numbers_row 0)
tree_row n _ = None

-- `prm`
unfoldable pub prm_row : Verb → Option Row
prm_row Setup = Some (setup_row (LIM + SEG + CONNECT + S + S + RADIUS))
prm_row Keepout = Some keep_out_row
prm_row Construct = Some (list_row false Any)
prm_row Goals = Some (numbers_row (S + S + RADIUS))
prm_row Query = Some (list_row true (Exactly 0))
prm_row Tables = Some (numbers_row 0)
prm_row _ = None

unfoldable pub row_of : Planner → Verb → Option Row
row_of Mount verb = mount_row verb
row_of Rrt verb = tree_row (LIM + SEG + MAX + S + S + RADIUS) verb
row_of Connect verb = tree_row (LIM + SEG + MAX + S + S + RADIUS) verb
row_of Star verb = tree_row (LIM + SEG + MAX + SEARCH + S + S + RADIUS) verb
row_of Prm verb = prm_row verb
