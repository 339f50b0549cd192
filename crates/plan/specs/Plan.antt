-- What a planner is to its caller, whatever its plan and its tables are.
use Rattle.std.specs.Prelude.{Bool, cond, List, Float}
use Rattle.fields.specs.declared.Limits.{Limits}
use Rattle.fields.specs.declared.Length.{Length}
use Rattle.fields.specs.declared.Goal.{Goal}
use Rattle.keep_out_table.specs.Table.{keep_outs_of}
use Rattle.keep_out.specs.declared.KeepOut.{KeepOut}
use Rattle.mount.specs.declared.Mount.{Mount}
use Rattle.plan.specs.declared.Setting.{Setting}

-- what a setup gave that every planner takes, without the start; max is max_distance, or PRM's connection_radius
pub record Plan : Type 0 where
  pub limits : Limits
  pub segment : Float
  pub keep_outs : List KeepOut
  pub max : Float
  pub goal : Goal

-- the plan that the code's values make
abbrev pub plan_from : Mount → Length → Goal → Plan
plan_from mount max goal =
    record { limits = mount.limits; segment = mount.segment.value; keep_outs = keep_outs_of mount.table; max = max.value; goal = goal }

abbrev pub plan_of : Setting → Plan
plan_of s = plan_from s.mount s.reach s.goal

-- the same under another list of keep-outs
abbrev pub plan_under : Plan → List KeepOut → Plan
plan_under p ks = record { limits = p.limits; segment = p.segment; keep_outs = ks; max = p.max; goal = p.goal }

-- uninitialised, or set up: what the setup gave (P), and the tables (A)
pub data Planner (P A : Type 0) : Type 0 where
  unset : Planner P A
  set : P → A → Planner P A

-- what a planner's values make: nothing counts of one that cannot be used
unfoldable pub view_of : {P A : Type 0} → Bool → P → A → Planner P A
view_of usable plan tables = cond usable (set plan tables) unset
