-- A setup's answer from what its numbers make.
use mathlib.Core.Bool.{true, false, not}
use mathlib.Core.Path.{◌≡◌, ◌∙◌, ap}
use native.Mathlib.Omega.{arith}
use Rattle.answer.specs.declared.Answer.TheVariants.{Done, BadInput}
use Rattle.state.specs.declared.State.{State}
use Rattle.fields.specs.declared.Limits.{Limits}
use Rattle.fields.specs.declared.Length.{Length}
use Rattle.fields.specs.declared.Goal.{Goal}
use Rattle.keep_out_table.specs.declared.KeepOuts.{KeepOuts}
use Rattle.tree.specs.Table.{nodes_of, rooted_of}
use Rattle.tree.specs.declared.Tree.{Tree}
use Rattle.tree.proofs.Push.{rooted_is}
use Rattle.plan.specs.Setup.{setting_of}
use Rattle.plan.specs.declared.Setting.{Setting}
use Rattle.plan.proofs.Usable.{usable_root}
use Rattle.plan.proofs.Answers as answers
use Rattle.rrt.specs.declared.Rrt.{Rrt}
use Rattle.rrt.specs.Planner.{planner_of, told_of, setup_of}

module _ (p : Rrt) (limits : Limits) (segment max : Length) (start : State) (goal : Goal) (table : KeepOuts) (s : Setting) (is : s ≡ setting_of limits segment max start goal table) where
  pub setup_refused : not s.ready ≡ true → told_of p BadInput ≡ setup_of (planner_of p) limits segment max start goal table
  unfolding setup_of
  setup_refused h = rw (← is) (answers.setup_refused (planner_of p) _ _ _ e)
    where
      e : s.ready ≡ false
      e = grind arith

  pub setup_done :
      not s.ready ≡ false → (t : Tree) → t ≡ rooted_of start →
      told_of (record { setting = s; tree = t }) Done ≡ setup_of (planner_of p) limits segment max start goal table
  unfolding setup_of planner_of
  setup_done h t r =
      let usable = usable_root _ _ start e (ap (λ (x : Tree). x.count) r) in
      rw (← is) (answers.setup_done (planner_of p) _ _ _ e _ usable _ (ap nodes_of r ∙ rooted_is start))
    where
      e : s.ready ≡ true
      e = grind arith
