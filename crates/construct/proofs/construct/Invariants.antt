use Rattle.keep_out_table.specs.Table.{keep_outs_of}
use Rattle.construct.proofs.Runs.{Building}
use Rattle.construct.proofs.construct.Given as goal

abbrev pub invariant-loop-at : goal.invariant-loop-at
invariant-loop-at l =
    let walk = l.at-iterator in
    Building l.mount.limits l.mount.segment.value (keep_outs_of l.mount.table) l.radius l.samples l.map walk.iter.size walk.count walk.iter.rest.now
