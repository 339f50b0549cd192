-- The nodes that a tree's table holds, in order: their states and their parents' numbers. A root's parent is 512, no node's number.
use Rattle.std.specs.Prelude.{ℕ, ◌+◌, List, [], ◌∷◌, ◌++◌, Option, Some, None, cond, ltb, length, get_or, map, take, set, replicate}
use Rattle.std.specs.Float.{binary64}
use Rattle.std.specs.Float.Ieee.{of_bits}
use Rattle.state.specs.Rows.{state_at}
use Rattle.state.specs.declared.State.{State}
use Rattle.tree.specs.declared.Node.{Node}
use Rattle.tree.specs.declared.Tree.{Tree}
use Rattle.tree.specs.declared.NodeAt.{NodeAt}
use Rattle.tree.specs.declared.NodeAt.TheVariants.{Root, Child}

abbrev pub state_in : Node → State
state_in node = node.state

abbrev pub parent_in : Node → ℕ
parent_in node = node.parent

pub record Nodes : Type 0 where
  pub states : List State
  pub parents : List ℕ

unfoldable pub nodes_in : List Node → Nodes
nodes_in l = record { states = map state_in l; parents = map parent_in l }

-- those of the first count places; all where the count is beyond the table
unfoldable pub nodes_of : Tree → Nodes
nodes_of t = nodes_in (take t.count t.nodes)

unfoldable pub states_of : Tree → List State
states_of t = map state_in (take t.count t.nodes)

-- the number of a node's parent; a root's is no node's
abbrev pub parent_at : Nodes → ℕ → ℕ
parent_at nodes k = get_or nodes.parents k 0

-- the node at i: a root, or a node with its parent's number
unfoldable pub node_at_of : Nodes → ℕ → Option NodeAt
node_at_of nodes i =
    let many = length nodes.states in
    let s = state_at nodes.states i in
    let node = cond (ltb (parent_at nodes i) many) (Child s (parent_at nodes i)) (Root s) in
    cond (ltb i many) (Some node) None

-- one node more
unfoldable pub grown_of : Nodes → State → ℕ → Nodes
grown_of nodes s parent = record { states = nodes.states ++ (s ∷ []); parents = nodes.parents ++ (parent ∷ []) }

-- the table with it in the next place (`pushed_is`)
unfoldable pub pushed_of : Tree → State → ℕ → Tree
pushed_of t s parent = record { nodes = set t.nodes t.count (record { state = s; parent = parent }); count = t.count + 1 }

-- a root alone
unfoldable pub root_of : State → Nodes
root_of s = record { states = s ∷ []; parents = 512 ∷ [] }

-- the table that holds it
unfoldable pub rooted_of : State → Tree
rooted_of s = record { nodes = replicate 512 (record { state = s; parent = 512 }); count = 1 }

-- no node at all, and the table that holds none
abbrev pub no_nodes : Nodes
no_nodes = record { states = []; parents = [] }

unfoldable pub none_of : Tree
none_of =
    let zero = of_bits binary64 0 in
    let nowhere : Node = record { state = record { az = zero; el = zero; feed = zero }; parent = 512 } in
    record { nodes = replicate 512 nowhere; count = 0 }
