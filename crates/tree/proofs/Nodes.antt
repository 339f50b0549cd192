-- How many nodes a table holds, and what stands at a number.
use Prim.Native.Nat.{ℕ, ◌≤◌, ◌<◌, min}
use mathlib.Core.List.{List}
use mathlib.Core.Path.{◌≡◌, refl, ◌∙◌}
use native.Mathlib.Omega.{arith}
use borrow.Author.Tests.{lt-ltb, le-ltb}
use lib.ListN.{length, get_or, take, length-take}
use lib.Seq.{get_or-take}
use Rattle.std.proofs.lemmas.List.{length-map, get_or-map, length-take-le}
use Rattle.std.specs.Prelude.{Some, None}
use Rattle.state.specs.Rows.{state_at}
use Rattle.tree.specs.declared.Node.{Node}
use Rattle.tree.specs.declared.NodeAt.TheVariants.{Root, Child}
use Rattle.tree.specs.declared.Tree.{Tree}
use Rattle.tree.specs.Table.{state_in, parent_in, nodes_in, nodes_of, states_of, parent_at, node_at_of}

-- a list of nodes
module _ (l : List Node) where
  many : length (nodes_in l).states ≡ length l
  unfolding nodes_in
  many = length-map l state_in

  pub node_none : (i : ℕ) → length l ≤ i → None ≡ node_at_of (nodes_in l) i
  unfolding node_at_of
  node_none i h = rw (many, le-ltb i (length l) h)

  module _ (i : ℕ) (d : Node) (h : i < length l) where
    state : state_at (nodes_in l).states i ≡ (get_or l i d).state
    unfolding nodes_in
    state = get_or-map state_in l i d _ h

    parent : parent_at (nodes_in l) i ≡ (get_or l i d).parent
    unfolding nodes_in
    parent = get_or-map parent_in l i d 0 h

    pub node_child : (get_or l i d).parent < length l → Some (Child (get_or l i d).state (get_or l i d).parent) ≡ node_at_of (nodes_in l) i
    unfolding node_at_of
    node_child p = rw (many, lt-ltb i (length l) h, parent, lt-ltb (get_or l i d).parent (length l) p, state)

    pub node_root : length l ≤ (get_or l i d).parent → Some (Root (get_or l i d).state) ≡ node_at_of (nodes_in l) i
    unfolding node_at_of
    node_root p = rw (many, lt-ltb i (length l) h, parent, le-ltb (get_or l i d).parent (length l) p, state)

-- never more states than the count says
pub states_few : (t : Tree) → length (states_of t) ≤ t.count
unfolding states_of
states_few t = let e = length-map (take t.count t.nodes) state_in in omega (arith, length-take t.count t.nodes)

-- how many nodes there are, in the table's part up to a count that the table has places for
pub nodes_many : (t : Tree) (n : ℕ) → length t.nodes ≡ 512 → n ≡ min t.count 512 → length (take n t.nodes) ≡ length (nodes_of t).states
unfolding nodes_of nodes_in
nodes_many t n sized e = let m = length-map (take t.count t.nodes) state_in in omega (arith, m, length-take t.count t.nodes, length-take n t.nodes)

-- a table whose count it has places for
module _ (t : Tree) (room : t.count ≤ length t.nodes) where
  pub states_length : length (states_of t) ≡ t.count
  unfolding states_of
  states_length = length-map (take t.count t.nodes) state_in ∙ length-take-le t.count t.nodes room

  pub nodes_length : length (nodes_of t).states ≡ t.count
  unfolding nodes_of nodes_in
  nodes_length = length-map (take t.count t.nodes) state_in ∙ length-take-le t.count t.nodes room

  module _ (k : ℕ) (d : Node) (h : k < t.count) where
    here : k < length (take t.count t.nodes)
    here = omega (arith, length-take-le t.count t.nodes room)

    pub state_is : state_at (states_of t) k ≡ (get_or t.nodes k d).state
    unfolding states_of
    state_is = get_or-map state_in (take t.count t.nodes) k d _ here ∙ rw (get_or-take t.count t.nodes k d h)

    pub parent_is : parent_at (nodes_of t) k ≡ (get_or t.nodes k d).parent
    unfolding nodes_of nodes_in
    parent_is = get_or-map parent_in (take t.count t.nodes) k d _ here ∙ rw (get_or-take t.count t.nodes k d h)

-- the states of a tree's nodes
pub states_are : (t : Tree) → (nodes_of t).states ≡ states_of t
unfolding nodes_of nodes_in states_of
states_are t = refl
