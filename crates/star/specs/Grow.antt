-- Document 01, "RRT*", one sample: a tree step; if its motion is accepted and the tree is not full, the neighbours, the parent, the append and
-- the rewiring.
use Rattle.std.specs.Prelude.{◌+◌, ◌≤◌, ◌<◌, cond, List, [], ◌∷◌, ◌++◌, ◌≡◌, ltb, length, take, ℕ, Float}
use Rattle.state.specs.declared.State.{State}
use Rattle.fields.specs.declared.Limits.{Limits}
use Rattle.keep_out.specs.declared.KeepOut.{KeepOut}
use Rattle.keep_out_table.specs.Table.{keep_outs_of}
use Rattle.mount.specs.declared.Mount.{Mount}
use Rattle.tree.specs.Table.{Nodes, nodes_of}
use Rattle.tree.specs.declared.Tree.{Tree}
use Rattle.step.specs.Step.{step_of}
use Rattle.step.specs.declared.Stepped.{Stepped}
use Rattle.extend.specs.declared.Verdict.{Verdict}
use Rattle.extend.specs.declared.Verdict.TheVariants.{Refused, Full, Added}
use Rattle.neighbours.specs.Neighbours.{neighbours_of}
use Rattle.choice.specs.Parent.{choose_of}
use Rattle.rewire.specs.Rewiring.{Links, rewire_of}
use Rattle.star.specs.declared.Grown.{Grown}

-- what a sample needs of the setup
pub record Reach : Type 0 where
  pub limits : Limits
  pub segment : Float
  pub keep_outs : List KeepOut
  pub max : Float
  pub radius : Float

abbrev pub plan_with : Mount → Float → Float → Reach
plan_with mount max radius =
    record { limits = mount.limits; segment = mount.segment.value; keep_outs = keep_outs_of mount.table; max = max; radius = radius }

-- a tree whose nodes have costs
pub record Costed : Type 0 where
  pub nodes : Nodes
  pub costs : List Float

-- the tree of a table with its table of costs
abbrev pub tree_of : Tree → List Float → Costed
tree_of t costs = record { nodes = nodes_of t; costs = take t.count costs }

-- the tree with an accepted step's node
unfoldable pub added_of : Limits → Float → List KeepOut → Float → Costed → Stepped → Costed
added_of limits segment ks radius tree e =
    let states = tree.nodes.states in
    let neighbours = neighbours_of radius e.at states in
    let choice = choose_of limits segment ks states tree.costs e.at e.parent neighbours in
    let appended : Links = record { parents = tree.nodes.parents ++ (choice.parent ∷ []); costs = tree.costs ++ (choice.cost ∷ []) } in
    let rewired = rewire_of limits segment ks states e.at choice (length states) appended neighbours in
    record { nodes = record { states = states ++ (e.at ∷ []); parents = rewired.parents }; costs = rewired.costs }

-- the tree after a sample, what became of it, and the new state
pub record Step : Type 0 where
  pub tree : Costed
  pub verdict : Verdict
  pub at : State

unfoldable pub after_step : Reach → Costed → Stepped → Step
after_step p tree e =
    let added : Step = record { tree = added_of p.limits p.segment p.keep_outs p.radius tree e; verdict = Added; at = e.at } in
    let full : Step = record { tree = tree; verdict = Full; at = e.at } in
    let refused : Step = record { tree = tree; verdict = Refused; at = e.at } in
    cond e.accepted (cond (ltb (length tree.nodes.states) 512) added full) refused

unfoldable pub grow_of : Reach → Costed → State → Step
grow_of p tree sample = after_step p tree (step_of p.limits p.segment p.keep_outs p.max tree.nodes.states sample)

-- what the code's step gives, with the tree and its costs at exit
abbrev pub grown_with : Tree → List Float → Grown → Step
grown_with t costs r = record { tree = tree_of t costs; verdict = r.verdict; at = r.at }

-- an accepted step's node was added
pub record Adds (limits : Limits) (segment : Float) (ks : List KeepOut) (radius : Float) (before : Tree) (costs : List Float) (e : Stepped) (t : Tree)
    (costs' : List Float) (found : List ℕ) : Type 0 where
  pub is : tree_of t costs' ≡ added_of limits segment ks radius (tree_of before costs) e
  pub count : t.count ≡ before.count + 1
  pub sized : (length costs' ≡ 512) × (length found ≡ 512)

-- the sample was taken: the tree has at least a root and at most 512 nodes, and the lent tables keep their lengths
pub record Grows (p : Reach) (before : Costed) (sample : State) (r : Grown) (t : Tree) (costs : List Float) (found : List ℕ) : Type 0 where
  pub is : grown_with t costs r ≡ grow_of p before sample
  pub some : 0 < t.count
  pub room : t.count ≤ 512
  pub sized : (length costs ≡ 512) × (length found ≡ 512)
