use Rattle.neighbours.proofs.Finds.{Finding}
use Rattle.neighbours.proofs.find_neighbours.Given as goal

abbrev pub invariant-loop-i : goal.invariant-loop-i
invariant-loop-i l = Finding l.radius l.new l.node-items l.i l.many l.found
