-- What a PRM planner is to its caller, document 01's setup with its fields in order, and the replacing of start and goal.
use Rattle.std.specs.Prelude.{ℕ, Bool, false, ◌&&◌, cond, Option, None, List, [], length, Float}
use Rattle.answer.specs.declared.Answer.{Answer}
use Rattle.answer.specs.declared.Answer.TheVariants.{Done, Uninitialised, BadInput}
use Rattle.state.specs.Ranges.{good_state}
use Rattle.fields.specs.Ranges.{good_goal}
use Rattle.state.specs.declared.State.{State}
use Rattle.fields.specs.declared.Limits.{Limits}
use Rattle.fields.specs.declared.Length.{Length}
use Rattle.fields.specs.declared.Goal.{Goal}
use Rattle.keep_out.specs.declared.KeepOut.{KeepOut}
use Rattle.keep_out_table.specs.declared.KeepOuts.{KeepOuts}
use Rattle.plan.specs.Plan.{Plan, plan_of, Planner, unset, set, view_of}
use Rattle.plan.specs.Setup.{Told, setting_of, setup_with}
use Rattle.roadmap.specs.Map as map
use Rattle.roadmap.specs.Map.{Milestone}
use Rattle.roadmap.specs.View.{milestones_of}
use Rattle.prm.specs.declared.Prm.{Prm}

-- what a setup gave, with start and goal as last replaced
pub record Given : Type 0 where
  pub limits : Limits
  pub segment : Float
  pub keep_outs : List KeepOut
  pub radius : Float
  pub start : State
  pub goal : Goal

-- connection_radius is a setting's reach
abbrev pub given_by : Plan → State → Given
given_by p start = record { limits = p.limits; segment = p.segment; keep_outs = p.keep_outs; radius = p.max; start = start; goal = p.goal }

abbrev pub View : Type 0
View = Planner Given (List Milestone)

-- a roadmap whose count is past its table reads as the table's end
unfoldable pub planner_of : Prm → View
planner_of p = view_of p.setting.ready (given_by (plan_of p.setting) p.start) (milestones_of p.map)

abbrev pub new_of : View
new_of = unset

-- a planner after a call, and what the call answered
abbrev pub told_of : Prm → Answer → Told Given (List Milestone)
told_of p answer = record { planner = planner_of p; answer = answer }

-- setup empties the roadmap
unfoldable pub setup_of : View → Limits → Length → Length → State → Goal → KeepOuts → Told Given (List Milestone)
setup_of planner limits segment radius start goal table =
    let setting = setting_of limits segment radius start goal table in
    setup_with planner setting.ready (given_by (plan_of setting) start) []

-- the same with another start and goal
abbrev pub with_goals : Given → State → Goal → Given
with_goals g start goal = record { limits = g.limits; segment = g.segment; keep_outs = g.keep_outs; radius = g.radius; start = start; goal = goal }

-- start and goal may be replaced between queries: 1, then 2; the space may not
unfoldable pub goals_of : View → State → Goal → Told Given (List Milestone)
goals_of unset start goal = record { planner = unset; answer = Uninitialised }
goals_of (set given ms) start goal =
    cond (good_state start && good_goal goal)
    (record { planner = set (with_goals given start goal) ms; answer = Done })
    (record { planner = set given ms; answer = BadInput })

-- the roadmap by index
unfoldable pub size_of : View → ℕ
size_of unset = 0
size_of (set given ms) = length ms

unfoldable pub milestone_of : View → ℕ → Option State
milestone_of unset i = None
milestone_of (set given ms) i = map.milestone_of ms i

unfoldable pub leg_of : View → ℕ → ℕ → Bool
leg_of unset i j = false
leg_of (set given ms) i j = map.leg_of ms i j
