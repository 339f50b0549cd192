use Rattle.std.proofs.Common.{◌≡◌}
use mathlib.Core.List.{map}
use Rattle.tree.specs.Table.{state_in}
use Rattle.nearest.specs.Nearest.{nearest_of}
use Rattle.nearest.proofs.Turns.{search_at}
use Rattle.nearest.proofs.nearest.Given as goal

-- what the answer is rests on the nodes from this one on
abbrev pub invariant-loop-index : goal.invariant-loop-index
invariant-loop-index l = nearest_of (map state_in l.nodes) l.s ≡ search_at l.nodes l.s l.best l.index
