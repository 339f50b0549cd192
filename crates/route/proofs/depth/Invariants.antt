use Rattle.tree.specs.Table.{nodes_of}
use Rattle.route.proofs.Climb.{Climbed}
use Rattle.route.proofs.depth.Given as goal

abbrev pub invariant-loop-n : goal.invariant-loop-n
invariant-loop-n l = Climbed (nodes_of l.tree) l.node l.tree.count l.parent l.n
