-- Document 01, "Sizes and answers", for a keep-out that is added: 1, 2, 4 in that order, and a refusal keeps all. For a tree planner it affects
-- only later motions: the tables stay.
use Rattle.std.specs.Prelude.{Bool, cond, Result, Ok, Err, List, [], ◌∷◌, ◌++◌, ltb, length}
use Rattle.answer.specs.declared.Answer.{Answer}
use Rattle.answer.specs.declared.Answer.TheVariants.{Done, Uninitialised, BadInput, Full}
use Rattle.keep_out.specs.Good.{good_keep_out}
use Rattle.keep_out_table.specs.Table.{keep_outs_of}
use Rattle.keep_out.specs.declared.KeepOut.{KeepOut}
use Rattle.keep_out_table.specs.declared.KeepOuts.{KeepOuts}
use Rattle.plan.specs.Plan.{Plan, plan_of, plan_under, Planner, unset, set}
use Rattle.plan.specs.Setup.{Told}
use Rattle.plan.specs.declared.Setting.{Setting}

-- a list of keep-outs after one was to be added, and the answer
pub record Longer : Type 0 where
  pub keep_outs : List KeepOut
  pub answer : Answer

-- bad numbers before the 33rd
unfoldable pub longer_of : List KeepOut → KeepOut → Longer
longer_of ks k =
    cond (good_keep_out k)
    (cond (ltb (length ks) 32) (record { keep_outs = ks ++ (k ∷ []); answer = Done }) (record { keep_outs = ks; answer = Full }))
    (record { keep_outs = ks; answer = BadInput })

-- a table that may have become a longer one
abbrev pub told_of : KeepOuts → Result KeepOuts Answer → Longer
told_of t (Ok longer) = record { keep_outs = keep_outs_of longer; answer = Done }
told_of t (Err answer) = record { keep_outs = keep_outs_of t; answer = answer }

-- what a setup gave under the longer list, and the answer
pub record Added : Type 0 where
  pub ready : Bool
  pub plan : Plan
  pub answer : Answer

abbrev pub more_of : Setting → Answer → Added
more_of s answer = record { ready = s.ready; plan = plan_of s; answer = answer }

unfoldable pub longer_setting : Setting → KeepOut → Added
longer_setting s k =
    let longer = longer_of (keep_outs_of s.mount.table) k in
    record { ready = s.ready; plan = plan_under (plan_of s) longer.keep_outs; answer = longer.answer }

-- `list` is the plan's list of keep-outs, and `under` the plan under another one
unfoldable pub add_with : {P A : Type 0} → (P → List KeepOut) → (P → List KeepOut → P) → Planner P A → KeepOut → Told P A
add_with list under unset k = record { planner = unset; answer = Uninitialised }
add_with list under (set plan tables) k =
    let longer = longer_of (list plan) k in
    record { planner = set (under plan longer.keep_outs) tables; answer = longer.answer }
