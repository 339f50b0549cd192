-- The table of keep-outs: the list that it holds, the empty one, and one keep-out more. Document 01: at most 32.
use Rattle.std.specs.Prelude.{◌+◌, cond, Option, Some, None, List, map, ltb, take, set, replicate}
use Rattle.std.specs.Float.{binary64}
use Rattle.std.specs.Float.Ieee.{of_bits}
use Rattle.keep_out.specs.declared.KeepOut.{KeepOut}
use Rattle.keep_out.specs.declared.KeepOut.TheVariants.{Floor}
use Rattle.keep_out_table.specs.declared.Slot.{Slot}
use Rattle.keep_out_table.specs.declared.KeepOuts.{KeepOuts}

abbrev pub held_of : Slot → KeepOut
held_of slot = slot.held

-- the keep-outs of the first count places; all where the count is beyond the table
unfoldable pub keep_outs_of : KeepOuts → List KeepOut
keep_outs_of t = map held_of (take t.count t.slots)

unfoldable pub empty_table : KeepOuts
empty_table = record { slots = replicate 32 (record { held = Floor (of_bits binary64 0) }); count = 0 }

-- one keep-out more in the next place, if there is room for it
unfoldable pub with_of : KeepOuts → KeepOut → Option KeepOuts
with_of t k =
    cond (ltb t.count 32)
    (Some (record { slots = set t.slots t.count (record { held = k }); count = t.count + 1 }))
    None
