-- What an RRT* planner is to its caller, and document 01's setup: search_radius comes after max_distance.
use Rattle.std.specs.Prelude.{ℕ, ◌&&◌, cond, Option, Some, None, [], ◌∷◌, ltb, length, get_or, Float}
use Rattle.std.specs.Float.{binary64, nan}
use Rattle.std.specs.Float.Ieee.{of_bits}
use Rattle.answer.specs.declared.Answer.{Answer}
use Rattle.fields.specs.Ranges.{good_length}
use Rattle.state.specs.declared.State.{State}
use Rattle.fields.specs.declared.Limits.{Limits}
use Rattle.fields.specs.declared.Length.{Length}
use Rattle.fields.specs.declared.Goal.{Goal}
use Rattle.keep_out.specs.declared.KeepOut.{KeepOut}
use Rattle.keep_out_table.specs.declared.KeepOuts.{KeepOuts}
use Rattle.tree.specs.Table.{node_at_of, root_of}
use Rattle.tree.specs.declared.NodeAt.{NodeAt}
use Rattle.plan.specs.Plan.{Planner, unset, set, view_of}
use Rattle.plan.specs.Setup.{Told, setting_of, setup_with, usable_of}
use Rattle.plan.specs.KeepOut.{add_with}
use Rattle.star.specs.Grow.{Costed, tree_of}
use Rattle.star_run.specs.Run.{StarPlan, star_plan, star_under}
use Rattle.rrt_star.specs.declared.RrtStar.{RrtStar}

abbrev pub View : Type 0
View = Planner StarPlan Costed

unfoldable pub planner_of : RrtStar → View
planner_of p =
    view_of (usable_of p.setting.ready p.tree.count) (star_plan p.setting.mount p.setting.reach p.search_radius p.setting.goal) (tree_of p.tree p.cost)

abbrev pub new_of : View
new_of = unset

-- a planner after a call, and what the call answered
abbrev pub told_of : RrtStar → Answer → Told StarPlan Costed
told_of p answer = record { planner = planner_of p; answer = answer }

-- root cost 0
abbrev pub root_costed : State → Costed
root_costed start = record { nodes = root_of start; costs = of_bits binary64 0 ∷ [] }

unfoldable pub setup_of : View → Limits → Length → Length → Length → State → Goal → KeepOuts → Told StarPlan Costed
setup_of planner limits segment max radius start goal table =
    let setting = setting_of limits segment max start goal table in
    setup_with planner (setting.ready && good_length radius) (star_plan setting.mount setting.reach radius setting.goal) (root_costed start)

-- a keep-out more for the motions to come; the tree stays
unfoldable pub add_of : View → KeepOut → Told StarPlan Costed
add_of planner k = add_with (λ (p : StarPlan). p.reach.keep_outs) star_under planner k

-- the tree by index, and its costs
unfoldable pub size_of : View → ℕ
size_of unset = 0
size_of (set plan tree) = length tree.nodes.states

unfoldable pub node_of : View → ℕ → Option NodeAt
node_of unset i = None
node_of (set plan tree) i = node_at_of tree.nodes i

unfoldable pub cost_of : View → ℕ → Option Float
cost_of unset i = None
cost_of (set plan tree) i = cond (ltb i (length tree.nodes.states)) (Some (get_or tree.costs i nan)) None
