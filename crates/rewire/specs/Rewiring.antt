-- Document 01, "RRT*", the rewiring: per neighbour except the new node's parent, if new cost + distance(neighbour, new) is strictly below its
-- cost and the motion new to neighbour is accepted, it moves under the new node with that cost. Costs of its descendants stay as they were.
use Rattle.std.specs.Prelude.{ℕ, ◌-◌, Bool, not, ◌&&◌, cond, List, [], ◌∷◌, ◌≡◌, eqb, length, map, take, set, Float}
use Rattle.std.specs.Float.{binary64}
use Rattle.std.specs.Float.Ieee.{add, lt}
use Rattle.state.specs.Distance.{distance_of}
use Rattle.state.specs.Rows.{state_at}
use Rattle.state.specs.declared.State.{State}
use Rattle.fields.specs.declared.Limits.{Limits}
use Rattle.keep_out.specs.declared.KeepOut.{KeepOut}
use Rattle.motion.specs.Accepts.{accepts_of}
use Rattle.tree.specs.declared.Tree.{Tree}
use Rattle.tree.specs.Table.{state_in, nodes_of, states_of}
use Rattle.choice.specs.declared.Choice.{Choice}
use Rattle.choice.specs.Parent.{cost_at}

-- how the nodes hang together: each one's parent and cost
pub record Links : Type 0 where
  pub parents : List ℕ
  pub costs : List Float

-- the cost of the neighbour i under the new node
unfoldable pub cost_under : List State → State → Choice → ℕ → Float
cost_under states new choice i = add binary64 choice.cost (distance_of (state_at states i) new)

-- the neighbour i moves under the new node
unfoldable pub moves : Limits → Float → List KeepOut → List State → State → Choice → Links → ℕ → Bool
moves limits segment ks states new choice links i =
    not (eqb i choice.parent) && (lt (cost_under states new choice i) (cost_at links.costs i) && accepts_of limits segment ks new (state_at states i))

-- `number` is the new node's number
unfoldable pub rewire_of : Limits → Float → List KeepOut → List State → State → Choice → ℕ → Links → List ℕ → Links
rewire_of limits segment ks states new choice number links [] = links
rewire_of limits segment ks states new choice number links (i ∷ is) =
    let moved : Links = record { parents = set links.parents i number; costs = set links.costs i (cost_under states new choice i) } in
    rewire_of limits segment ks states new choice number (cond (moves limits segment ks states new choice links i) moved links) is

-- those of a tree's nodes
abbrev pub links_of : Tree → List Float → Links
links_of t costs = record { parents = (nodes_of t).parents; costs = take t.count costs }

-- what the code's rewiring around its last node makes of a tree and its costs: each place keeps its state
pub record Rewires (limits : Limits) (segment : Float) (ks : List KeepOut) (new : State) (choice : Choice) (before : Tree) (costs : List Float)
    (neighbours : List ℕ) (after : Tree) (costs' : List Float) : Type 0 where
  pub is : links_of after costs' ≡ rewire_of limits segment ks (states_of before) new choice (before.count - 1) (links_of before costs) neighbours
  pub states : map state_in after.nodes ≡ map state_in before.nodes
  pub count : after.count ≡ before.count
  pub cost_sized : length costs' ≡ 512
