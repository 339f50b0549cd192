use Rattle.keep_out_table.specs.Table.{keep_outs_of}
use Rattle.rewire.proofs.Moves.{Moving}
use Rattle.rewire.proofs.rewire.Given as goal

abbrev pub invariant-loop-i : goal.invariant-loop-i
invariant-loop-i l =
    Moving l.mount.limits l.mount.segment.value (keep_outs_of l.mount.table) l.new l.choice l.initial.tree l.initial.cost l.neighbours l.i-index l.tree l.cost
