-- RRT-Connect's two trees.
use Rattle.std.specs.Prelude.{ℕ, length}
use Rattle.tree.specs.Table.{Nodes, nodes_of}
use Rattle.tree.specs.declared.Tree.{Tree}

pub record Trees : Type 0 where
  pub start : Nodes
  pub goal : Nodes

-- how many nodes a tree has
abbrev pub size_of : Nodes → ℕ
size_of nodes = length nodes.states

-- the trees that two tables hold
abbrev pub trees_at : Tree → Tree → Trees
trees_at start goal = record { start = nodes_of start; goal = nodes_of goal }
