use Prim.Native.Nat.{ℕ}
use lib.ListN.{length}
use Rattle.keep_out_table.specs.Table.{keep_outs_of}
use Rattle.state.specs.Rows.{state_at}
use Rattle.roadmap.specs.View.{Joins}
use Rattle.construct.specs.Construct.{joined_of}
use Rattle.construct.proofs.join_earlier.Given as goal

-- the milestones before this one are joined
abbrev pub invariant-loop-j : goal.invariant-loop-j
invariant-loop-j l =
    Joins l.initial.legs (length l.earlier) l.j
    (λ (i : ℕ). joined_of l.mount.limits l.mount.segment.value (keep_outs_of l.mount.table) l.radius l.new (state_at l.earlier i)) l.legs
