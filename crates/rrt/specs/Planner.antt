-- What an RRT planner is to its caller, and document 01's setup with its fields in order.
use Rattle.std.specs.Prelude.{ℕ, Option, None, length}
use Rattle.answer.specs.declared.Answer.{Answer}
use Rattle.state.specs.declared.State.{State}
use Rattle.fields.specs.declared.Limits.{Limits}
use Rattle.fields.specs.declared.Length.{Length}
use Rattle.fields.specs.declared.Goal.{Goal}
use Rattle.keep_out.specs.declared.KeepOut.{KeepOut}
use Rattle.keep_out_table.specs.declared.KeepOuts.{KeepOuts}
use Rattle.tree.specs.Table.{Nodes, nodes_of, node_at_of, root_of}
use Rattle.tree.specs.declared.NodeAt.{NodeAt}
use Rattle.plan.specs.Plan.{Plan, plan_of, plan_under, Planner, unset, set, view_of}
use Rattle.plan.specs.Setup.{Told, setting_of, setup_with, usable_of}
use Rattle.plan.specs.KeepOut.{add_with}
use Rattle.rrt.specs.declared.Rrt.{Rrt}

abbrev pub View : Type 0
View = Planner Plan Nodes

unfoldable pub planner_of : Rrt → View
planner_of p = view_of (usable_of p.setting.ready p.tree.count) (plan_of p.setting) (nodes_of p.tree)

abbrev pub new_of : View
new_of = unset

-- a planner after a call, and what the call answered
abbrev pub told_of : Rrt → Answer → Told Plan Nodes
told_of p answer = record { planner = planner_of p; answer = answer }

-- setup empties the tree: it is then its root alone, the start
unfoldable pub setup_of : View → Limits → Length → Length → State → Goal → KeepOuts → Told Plan Nodes
setup_of planner limits segment max start goal table =
    let setting = setting_of limits segment max start goal table in
    setup_with planner setting.ready (plan_of setting) (root_of start)

-- a keep-out more for the motions to come; the tree stays
unfoldable pub add_of : View → KeepOut → Told Plan Nodes
add_of planner k = add_with (λ (p : Plan). p.keep_outs) plan_under planner k

-- the tree by index
unfoldable pub size_of : View → ℕ
size_of unset = 0
size_of (set plan nodes) = length nodes.states

unfoldable pub node_of : View → ℕ → Option NodeAt
node_of unset i = None
node_of (set plan nodes) i = node_at_of nodes i
