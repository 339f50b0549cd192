use Prim.Native.Nat.{◌-◌, ◌≤◌}
use Rattle.legs.specs.Bits.{unseen_at}
use Rattle.legs.specs.Next.{Clear}
use Rattle.legs.proofs.next_unseen.Given as goal

abbrev pub invariant-words : goal.invariant-words
invariant-words l = (l.from ≤ l.at) × Clear (unseen_at l.legs l.i l.seen) l.from l.at

abbrev pub decreases-words : goal.decreases-words
decreases-words l = l.end - l.at
