use Rattle.tree.specs.Table.{nodes_of}
use Rattle.tree.proofs.Nodes.{node_none, node_child, node_root}
use Rattle.tree.proofs.Tree.node_at.Goals as goal

pub returns-then-nodes-i : goal.returns-then-nodes-i
unfolding nodes_of
returns-then-nodes-i c = rw (← c.held-nodes.ensures) (node_none _ _ c.if-nodes-i.true)

pub returns-then-node-nodes : goal.returns-then-node-nodes
unfolding nodes_of
returns-then-node-nodes c = rw (← c.held-nodes.ensures) (node_child _ _ _ c.if-nodes-i.false c.if-node-nodes.true)

pub returns : goal.returns
unfolding nodes_of
returns c = rw (← c.held-nodes.ensures) (node_root _ _ _ c.if-nodes-i.false c.if-node-nodes.false)
