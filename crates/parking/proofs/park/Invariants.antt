use Prim.Native.Nat.{◌+◌, ◌-◌, ◌≤◌, max}
use mathlib.Core.Path.{◌≡◌}
use Rattle.prm.specs.Planner.{planner_of}
use Rattle.parking.specs.Park.{park_of}
use Rattle.parking.proofs.park.Given as goal

-- a row past the first is at most the 32nd, and all rows give what the rows that are left give on the planner so far
abbrev pub invariant-loop-k : goal.invariant-loop-k
invariant-loop-k l =
    (l.first + l.k ≤ max l.first 32)
    × (park_of l.kinds l.numbers (planner_of l.initial.planner) l.added l.first ≡ park_of l.kinds l.numbers (planner_of l.planner) (l.added - l.k) (l.first + l.k))
