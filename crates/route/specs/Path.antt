-- The route from the root to a node, over a tree's nodes (document 01, RRT: "the route from root to it is the answer").
use Rattle.std.specs.Prelude.{ℕ, zero, suc, ◌-◌, ◌≤◌, ◌<◌, cond, List, [], ◌∷◌, ◌≡◌, ltb, length}
use Rattle.state.specs.declared.State.{State}
use Rattle.state.specs.Rows.{state_at}
use Rattle.tree.specs.Table.{Nodes, parent_at}

-- the states from the root to the node k, before those of `after`; at most fuel steps up
unfoldable pub climb_of : ℕ → Nodes → ℕ → List State → List State
climb_of zero nodes k after = state_at nodes.states k ∷ after
climb_of (suc fuel) nodes k after =
    let here = state_at nodes.states k ∷ after in
    let up = climb_of fuel nodes (parent_at nodes k) here in
    cond (ltb (parent_at nodes k) (length nodes.states)) up here

-- as many states as there are nodes, at the most
unfoldable pub path_of : Nodes → ℕ → List State
path_of nodes k = climb_of (length nodes.states - 1) nodes k []

-- n is the number of its states
pub record Depth (nodes : Nodes) (k n : ℕ) : Type 0 where
  pub is : n ≡ length (path_of nodes k)
  pub some : 0 < n
  pub few : n ≤ length nodes.states

-- the states from a node's parent up to the root, at most fuel of them
unfoldable pub ancestors_of : ℕ → Nodes → ℕ → List State
ancestors_of zero nodes k = []
ancestors_of (suc fuel) nodes k =
    let p = parent_at nodes k in
    let up = state_at nodes.states p ∷ ancestors_of fuel nodes p in
    cond (ltb p (length nodes.states)) up []

-- as many as there are other nodes, at the most
unfoldable pub upwards_of : Nodes → ℕ → List State
upwards_of nodes k = ancestors_of (length nodes.states - 1) nodes k
