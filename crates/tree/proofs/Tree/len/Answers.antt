use borrow.Author.Rules.{rules}
use Rattle.laws.specs.Rest.{mapped}
use Rattle.tree.proofs.Nodes.{nodes_many}
use Rattle.tree.proofs.Tree.len.Goals as goal

pub returns-clause-nodes : goal.returns-clause-nodes
returns-clause-nodes c = nodes_many _ _ (search (mapped, rules)) c.min.ensures
