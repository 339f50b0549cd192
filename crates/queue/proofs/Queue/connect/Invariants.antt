use Rattle.std.proofs.Common.{◌≡◌, map, take}
use Rattle.keep_out_table.specs.Table.{keep_outs_of}
use Rattle.construct.specs.Construct.{joined_of}
use Rattle.queue.specs.Places.{numbers_of, push_of}
use Rattle.queue.proofs.Queue.connect.Given as goal

-- of the milestones before this one, those that the start reaches are queued
abbrev pub invariant-loop-number : goal.invariant-loop-number
invariant-loop-number l =
    l.self
    ≡ push_of 0 l.initial.self (numbers_of 0 (map (joined_of l.mount.limits l.mount.segment.value (keep_outs_of l.mount.table) l.radius l.start) (take l.number l.milestones)))
