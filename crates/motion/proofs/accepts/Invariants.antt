use Rattle.std.proofs.Common.{◌≡◌, ◌≤◌, ◌<◌, false, take}
use Rattle.std.specs.List.{list_any}
use Rattle.keep_out_table.specs.Table.{keep_outs_of}
use Rattle.keep_out_table.proofs.Covered.{hits}
use Rattle.motion.specs.Accepts.{accepts_of}
use Rattle.motion.proofs.Walk.{left_at}
use Rattle.motion.proofs.accepts.Given as goal

-- none of the places before this one covers the point
abbrev pub invariant-keep_outs : goal.invariant-keep_outs
invariant-keep_outs l = list_any (hits l.s) (take l.slot-index l.slots) ≡ false

-- what the answer is rests on the points from this one on
abbrev pub invariant-points : goal.invariant-points
invariant-points l = accepts_of l.limits l.segment (keep_outs_of l.table) l.from l.to ≡ left_at l.limits (keep_outs_of l.table) l.from l.to l.n l.last l.i
