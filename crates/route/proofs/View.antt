-- The nodes of a tree, as the code reads them in the table.
use Prim.Native.Nat.{ℕ, ◌≤◌, ◌<◌}
use mathlib.Core.Path.{◌≡◌, ◌∙◌, ap}
use mathlib.Core.List.{List}
use native.Mathlib.Omega.{arith}
use lib.ListN.{length, get_or}
use Rattle.state.specs.Rows.{state_at}
use Rattle.state.specs.declared.State.{State}
use Rattle.tree.specs.declared.Node.{Node}
use Rattle.tree.specs.declared.Tree.{Tree}
use Rattle.tree.specs.Table.{nodes_of, parent_at}
use Rattle.tree.proofs.Nodes.{states_few, states_are, nodes_length, state_is, parent_is}

module _ (t : Tree) where
  pub nodes_few : length (nodes_of t).states ≤ t.count
  nodes_few = rw (states_are t) (states_few t)

  module _ (sized : length t.nodes ≡ 512) (small : t.count ≤ 512) where
    room : t.count ≤ length t.nodes
    room = omega arith

    pub nodes_many : length (nodes_of t).states ≡ t.count
    nodes_many = nodes_length t room

    module _ {k : ℕ} (h : k < t.count) (d : Node) where
      pub state_in : state_at (nodes_of t).states k ≡ (get_or t.nodes k d).state
      state_in = ap (λ (l : List State). state_at l k) (states_are t) ∙ state_is t room k d h

      pub parent_in : parent_at (nodes_of t) k ≡ (get_or t.nodes k d).parent
      parent_in = parent_is t room k d h
