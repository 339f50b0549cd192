-- The tree by index, where the planner can be used and where it cannot.
use Prim.Native.Nat.{ℕ}
use mathlib.Core.Bool.{true, false}
use mathlib.Core.Path.{◌≡◌, sym}
use lib.ListN.{length}
use Rattle.std.specs.Prelude.{None}
use Rattle.tree.specs.Table.{nodes_of, node_at_of}
use Rattle.plan.specs.Setup.{usable_of}
use Rattle.plan.proofs.Views.{view_set, view_unset}
use Rattle.rrt.specs.declared.Rrt.{Rrt}
use Rattle.rrt.specs.Planner.{planner_of, size_of, node_of}

module _ (p : Rrt) (u : true ≡ usable_of p.setting.ready p.tree.count) where
  pub size_set : length (nodes_of p.tree).states ≡ size_of (planner_of p)
  unfolding size_of planner_of
  size_set = rw (view_set _ _ _ (sym u))

  pub node_set : (i : ℕ) → node_at_of (nodes_of p.tree) i ≡ node_of (planner_of p) i
  unfolding node_of planner_of
  node_set i = rw (view_set _ _ _ (sym u))

module _ (p : Rrt) (u : false ≡ usable_of p.setting.ready p.tree.count) where
  pub size_unset : 0 ≡ size_of (planner_of p)
  unfolding size_of planner_of
  size_unset = rw (view_unset _ _ _ (sym u))

  pub node_unset : (i : ℕ) → None ≡ node_of (planner_of p) i
  unfolding node_of planner_of
  node_unset i = rw (view_unset _ _ _ (sym u))
