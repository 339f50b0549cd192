use Rattle.prune.proofs.Pruning.{Pruning}
use Rattle.prune.proofs.pruned.Given as goal

abbrev pub invariant-loop-i : goal.invariant-loop-i
invariant-loop-i l = Pruning l.map l.k l.segment l.left l.at l.i
