use Prim.Native.Nat.{◌<◌}
use Rattle.tree.specs.Table.{nodes_of}
use Rattle.route.proofs.Back.{Behind}
use Rattle.route.proofs.reconstruct_path.Given as goal

abbrev pub invariant-loop-place : goal.invariant-loop-place
invariant-loop-place l = (l.at < l.tree.count) × Behind (nodes_of l.tree) l.node l.count l.initial.route l.at l.place l.route
