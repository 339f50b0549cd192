use Rattle.std.proofs.Common.{◌≡◌, ◌-◌, ◌≤◌}
use Rattle.legs.specs.Bits.{leg_at}
use Rattle.queue.proofs.Walk.{walked}
use Rattle.queue.proofs.Queue.spread.Given as goal

-- of the numbers before this one, those of neighbours are queued
abbrev pub invariant-row : goal.invariant-row
invariant-row l = (l.self ≡ walked (leg_at l.legs l.milestone) l.from l.initial.self l.next) × (l.next ≤ l.count)

abbrev pub decreases-row : goal.decreases-row
decreases-row l = l.count - l.next
