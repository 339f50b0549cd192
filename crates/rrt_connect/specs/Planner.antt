-- What an RRT-Connect planner is to its caller. Its setup takes RRT's fields; the start tree is then its root alone, and the goal tree is
-- empty.
use Rattle.std.specs.Prelude.{ℕ, Bool, ◌&&◌, Option, None, leb}
use Rattle.answer.specs.declared.Answer.{Answer}
use Rattle.state.specs.declared.State.{State}
use Rattle.fields.specs.declared.Limits.{Limits}
use Rattle.fields.specs.declared.Length.{Length}
use Rattle.fields.specs.declared.Goal.{Goal}
use Rattle.keep_out.specs.declared.KeepOut.{KeepOut}
use Rattle.keep_out_table.specs.declared.KeepOuts.{KeepOuts}
use Rattle.tree.specs.Table.{node_at_of, root_of, no_nodes}
use Rattle.tree.specs.declared.NodeAt.{NodeAt}
use Rattle.plan.specs.Plan.{Plan, plan_of, plan_under, Planner, unset, set, view_of}
use Rattle.plan.specs.Setup as setup
use Rattle.plan.specs.Setup.{Told, setting_of, setup_with}
use Rattle.plan.specs.KeepOut.{add_with}
use Rattle.turn.specs.Trees.{Trees, size_of, trees_at}
use Rattle.rrt_connect.specs.declared.RrtConnect.{RrtConnect}

abbrev pub View : Type 0
View = Planner Plan Trees

-- the start tree is one that a setup can leave, and the goal tree has at most 512 nodes
unfoldable pub usable_of : Bool → ℕ → ℕ → Bool
usable_of ready start goal = setup.usable_of ready start && leb goal 512

unfoldable pub planner_of : RrtConnect → View
planner_of p =
    view_of (usable_of p.setting.ready p.start_tree.count p.goal_tree.count) (plan_of p.setting) (trees_at p.start_tree p.goal_tree)

abbrev pub new_of : View
new_of = unset

-- a planner after a call, and what the call answered
abbrev pub told_of : RrtConnect → Answer → Told Plan Trees
told_of p answer = record { planner = planner_of p; answer = answer }

unfoldable pub setup_of : View → Limits → Length → Length → State → Goal → KeepOuts → Told Plan Trees
setup_of planner limits segment max start goal table =
    let setting = setting_of limits segment max start goal table in
    setup_with planner setting.ready (plan_of setting) (record { start = root_of start; goal = no_nodes })

-- a keep-out more for the motions to come; the trees stay
unfoldable pub add_of : View → KeepOut → Told Plan Trees
add_of planner k = add_with (λ (p : Plan). p.keep_outs) plan_under planner k

-- the trees by index
unfoldable pub start_size_of : View → ℕ
start_size_of unset = 0
start_size_of (set plan trees) = size_of trees.start

unfoldable pub goal_size_of : View → ℕ
goal_size_of unset = 0
goal_size_of (set plan trees) = size_of trees.goal

unfoldable pub start_node_of : View → ℕ → Option NodeAt
start_node_of unset i = None
start_node_of (set plan trees) i = node_at_of trees.start i

unfoldable pub goal_node_of : View → ℕ → Option NodeAt
goal_node_of unset i = None
goal_node_of (set plan trees) i = node_at_of trees.goal i
