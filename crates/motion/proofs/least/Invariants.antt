use mathlib.Core.Path.{◌≡◌}
use Prim.Native.Nat.{◌≤◌, ◌-◌}
use Rattle.motion.specs.Points.{search_of, least_of}
use Rattle.motion.proofs.least.Given as goal

abbrev pub invariant-numbers : goal.invariant-numbers
invariant-numbers l = (l.n ≤ 4096) × (least_of l.q ≡ search_of (4096 - l.n) l.n l.q)

abbrev pub decreases-numbers : goal.decreases-numbers
decreases-numbers l = 4096 - l.n
