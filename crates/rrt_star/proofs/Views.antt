-- The tree by index and its costs, where the planner can be used and where it cannot.
use Prim.Native.Nat.{ℕ, ◌≤◌, ◌<◌}
use mathlib.Core.Bool.{true, false}
use mathlib.Core.Path.{◌≡◌, sym, ◌∙◌, ap}
use native.Mathlib.Omega.{arith}
use borrow.Author.Tests.{lt-ltb, le-ltb}
use lib.ListN.{length, get_or}
use lib.Seq.{get_or-take}
use lib.Ieee.{nan}
use Rattle.std.specs.Prelude.{Some, None}
use Rattle.tree.specs.Table.{nodes_of, node_at_of}
use Rattle.tree.proofs.Nodes.{nodes_length}
use Rattle.plan.specs.Setup.{usable_of}
use Rattle.plan.proofs.Usable.{usable_most}
use Rattle.plan.proofs.Views.{view_set, view_unset}
use Rattle.rrt_star.specs.declared.RrtStar.{RrtStar}
use Rattle.rrt_star.specs.Planner.{planner_of, size_of, node_of, cost_of}

module _ (p : RrtStar) (u : true ≡ usable_of p.setting.ready p.tree.count) where
  pub size_set : length (nodes_of p.tree).states ≡ size_of (planner_of p)
  unfolding size_of planner_of
  size_set = rw (view_set _ _ _ (sym u))

  pub node_set : (i : ℕ) → node_at_of (nodes_of p.tree) i ≡ node_of (planner_of p) i
  unfolding node_of planner_of
  node_set i = rw (view_set _ _ _ (sym u))

  -- the costs of the n nodes
  module _ {n : ℕ} (many : n ≡ length (nodes_of p.tree).states) (sized : length p.tree.nodes ≡ 512) where
    pub whole : n ≡ p.tree.count
    whole = many ∙ nodes_length p.tree (omega (arith, sized, usable_most _ _ (sym u)))

    pub cost_set : (i : ℕ) → i < n → Some (get_or p.cost i nan) ≡ cost_of (planner_of p) i
    unfolding cost_of planner_of
    cost_set i h = rw (view_set _ _ _ (sym u), ← many, lt-ltb i n h) (ap Some (sym (get_or-take p.tree.count p.cost i nan (omega (arith, whole)))))

  pub cost_past : (i : ℕ) → length (nodes_of p.tree).states ≤ i → None ≡ cost_of (planner_of p) i
  unfolding cost_of planner_of
  cost_past i h = rw (view_set _ _ _ (sym u), le-ltb i (length (nodes_of p.tree).states) h)

module _ (p : RrtStar) (u : false ≡ usable_of p.setting.ready p.tree.count) where
  pub size_unset : 0 ≡ size_of (planner_of p)
  unfolding size_of planner_of
  size_unset = rw (view_unset _ _ _ (sym u))

  pub node_unset : (i : ℕ) → None ≡ node_of (planner_of p) i
  unfolding node_of planner_of
  node_unset i = rw (view_unset _ _ _ (sym u))

  pub cost_unset : (i : ℕ) → None ≡ cost_of (planner_of p) i
  unfolding cost_of planner_of
  cost_unset i = rw (view_unset _ _ _ (sym u))
