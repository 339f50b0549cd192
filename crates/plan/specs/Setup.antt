-- Document 01, "The mount" and "Sizes and answers": a setup is refused with 2 where a number is outside the page, and then all is kept.
use Rattle.std.specs.Prelude.{ℕ, Bool, ◌&&◌, cond, ltb, leb}
use Rattle.answer.specs.declared.Answer.{Answer}
use Rattle.answer.specs.declared.Answer.TheVariants.{Done, BadInput}
use Rattle.state.specs.Ranges.{good_state}
use Rattle.fields.specs.Ranges.{good_length, good_goal}
use Rattle.state.specs.declared.State.{State}
use Rattle.fields.specs.declared.Limits.{Limits}
use Rattle.fields.specs.declared.Length.{Length}
use Rattle.fields.specs.declared.Goal.{Goal}
use Rattle.keep_out_table.specs.declared.KeepOuts.{KeepOuts}
use Rattle.mount.specs.Good.{good_mount}
use Rattle.mount.specs.declared.Mount.{Mount}
use Rattle.plan.specs.Plan.{Planner, set}
use Rattle.plan.specs.declared.Setting.{Setting}

-- every number of the setup is good; the start is not validated
unfoldable pub good_setup : Mount → Length → State → Goal → Bool
good_setup mount reach start goal = good_mount mount && good_length reach && good_state start && good_goal goal

-- what the numbers of a setup make
unfoldable pub setting_of : Limits → Length → Length → State → Goal → KeepOuts → Setting
setting_of limits segment reach start goal table =
    let mount : Mount = record { limits = limits; segment = segment; table = table } in
    record { ready = good_setup mount reach start goal; mount = mount; reach = reach; goal = goal }

-- a planner and its answer
pub record Told (P A : Type 0) : Type 0 where
  pub planner : Planner P A
  pub answer : Answer

-- an accepted setup leaves fresh tables, a refused one keeps all
unfoldable pub setup_with : {P A : Type 0} → Planner P A → Bool → P → A → Told P A
setup_with planner good plan fresh = cond good (record { planner = set plan fresh; answer = Done }) (record { planner = planner; answer = BadInput })

-- a setup was accepted, and the tree has a root and at most 512 nodes
unfoldable pub usable_of : Bool → ℕ → Bool
usable_of ready count = ready && ltb 0 count && leb count 512
