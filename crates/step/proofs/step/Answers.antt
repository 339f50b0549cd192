use mathlib.Core.Path.{◌≡◌}
use Prim.Native.Nat.{◌≤◌, ◌<◌}
use native.Mathlib.Omega.{arith}
use lib.ListN.{length}
use borrow.Author.Rules.{rules}
use Rattle.laws.specs.Rest.{mapped}
use Rattle.step.proofs.Steps.{below, step_is}
use Rattle.step.proofs.step.Goals as goal
use Rattle.step.proofs.step.Goals.{After-nearest-near}

-- the nearest node stands in the table
low : (c : After-nearest-near) → c.nearest-near.result.index < 512
low c =
    let h = below _ c.requires.0 _ _ c.nearest-near.ensures in
    omega (arith, h)

pub offset_bounds-tree-near : goal.offset_bounds-tree-near
offset_bounds-tree-near c = omega (arith, low c)

pub bounds-tree-near : goal.bounds-tree-near
bounds-tree-near c = low (goal.at.bounds-tree-near c).After-nearest-near

pub returns : goal.returns
returns c =
    let room : c.args.tree.now.count ≤ length c.args.tree.now.nodes = let sized : length c.args.tree.now.nodes ≡ 512 = search (mapped, rules) in omega arith in
    step_is _ c.requires.0 _ _ c.nearest-near.ensures room _ _ _ _ _ _ _ c.steer_by-at.ensures c.check_motion.ensures
