use Rattle.state.specs.Rows.{state_at}
use Rattle.search.proofs.Trees.{Growing}
use Rattle.search.proofs.write.Given as goal

-- the places before this one are in the tree
abbrev pub invariant-loop-k : goal.invariant-loop-k
invariant-loop-k l = Growing l.fn.start (state_at l.milestones) l.queue l.tree l.k
