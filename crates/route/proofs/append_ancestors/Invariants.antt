use Rattle.tree.specs.Table.{nodes_of}
use Rattle.route.proofs.Upwards.{Upped}
use Rattle.route.proofs.append_ancestors.Given as goal

abbrev pub invariant-loop-k : goal.invariant-loop-k
invariant-loop-k l = Upped (nodes_of l.tree) l.node l.tree.count l.from l.initial.route l.here.parent l.k l.route
