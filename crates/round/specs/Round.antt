-- Document 01, "RRT-Connect": if the goal tree is empty, the next sample becomes its root, untested. Each later sample grows the start
-- tree when its size is at most the goal tree's, else the goal tree.
use Rattle.std.specs.Prelude.{◌≤◌, ◌<◌, true, false, cond, ◌≡◌, eqb, leb}
use Rattle.state.specs.declared.State.{State}
use Rattle.tree.specs.Table.{root_of}
use Rattle.tree.specs.declared.Tree.{Tree}
use Rattle.plan.specs.Plan.{Plan}
use Rattle.turn.specs.declared.Ends.{Ends}
use Rattle.turn.specs.declared.Ends.TheVariants.{GoesOn}
use Rattle.turn.specs.Turn.{turn_of}
use Rattle.turn.specs.Trees.{Trees, size_of, trees_at}

-- both trees after a sample, and what it led to
pub record Round : Type 0 where
  pub trees : Trees
  pub ends : Ends

unfoldable pub round_of : Plan → Trees → State → Round
round_of p t sample =
    let planted : Round = record { trees = record { start = t.start; goal = root_of sample }; ends = GoesOn } in
    let a = turn_of p true t.start t.goal sample in
    let b = turn_of p false t.goal t.start sample in
    let start_grows : Round = record { trees = record { start = a.growing; goal = a.other }; ends = a.ends } in
    let goal_grows : Round = record { trees = record { start = b.other; goal = b.growing }; ends = b.ends } in
    cond (eqb (size_of t.goal) 0) planted (cond (leb (size_of t.start) (size_of t.goal)) start_grows goal_grows)

-- the sample was taken: what it led to, and both trees at exit, each of a root and at most 512 nodes
pub record Rounds (p : Plan) (t : Trees) (sample : State) (r : Ends) (start goal : Tree) : Type 0 where
  pub is : record { trees = trees_at start goal; ends = r } ≡ round_of p t sample
  pub start_rooted : (0 < start.count) × (start.count ≤ 512)
  pub goal_rooted : (0 < goal.count) × (goal.count ≤ 512)
