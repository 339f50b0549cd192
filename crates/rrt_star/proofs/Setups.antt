-- A setup's answer from what its numbers make.
use mathlib.Core.Bool.{true, false, ◌&&◌}
use mathlib.Core.List.{List, [], ◌∷◌}
use mathlib.Core.Path.{◌≡◌, ◌∙◌, ap}
use lib.ListN.{replicate}
use lib.Ieee.{Float, binary64, of_bits}
use Rattle.laws.specs.Cases.{and_true}
use Rattle.answer.specs.declared.Answer.TheVariants.{Done, BadInput}
use Rattle.fields.specs.Ranges.{good_length}
use Rattle.state.specs.declared.State.{State}
use Rattle.fields.specs.declared.Limits.{Limits}
use Rattle.fields.specs.declared.Length.{Length}
use Rattle.fields.specs.declared.Goal.{Goal}
use Rattle.keep_out_table.specs.declared.KeepOuts.{KeepOuts}
use Rattle.tree.specs.Table.{Nodes, rooted_of}
use Rattle.tree.specs.declared.Tree.{Tree}
use Rattle.tree.proofs.Push.{rooted_is}
use Rattle.plan.specs.Setup.{setting_of}
use Rattle.plan.specs.declared.Setting.{Setting}
use Rattle.plan.proofs.Usable.{usable_root}
use Rattle.plan.proofs.Answers as answers
use Rattle.star.specs.Grow.{tree_of}
use Rattle.rrt_star.specs.declared.RrtStar.{RrtStar}
use Rattle.rrt_star.specs.Planner.{planner_of, told_of, root_costed, setup_of}

-- the root costs 0
abbrev no_costs : List Float
no_costs = replicate 512 (of_bits binary64 0)

rooted_tree : (start : State) → tree_of (rooted_of start) no_costs ≡ root_costed start
unfolding rooted_of
rooted_tree start = ap (λ (x : Nodes). record { nodes = x; costs = of_bits binary64 0 ∷ [] }) (rooted_is start)

module _ (p : RrtStar) (limits : Limits) (segment max radius : Length) (start : State) (goal : Goal) (table : KeepOuts) (s : Setting) (is : s ≡ setting_of limits segment max start goal table) where
  pub setup_refused : s.ready && good_length radius ≡ false → told_of p BadInput ≡ setup_of (planner_of p) limits segment max radius start goal table
  unfolding setup_of
  setup_refused e = rw (← is) (answers.setup_refused (planner_of p) _ _ _ e)

  pub setup_done :
      s.ready ≡ true → good_length radius ≡ true → (t : Tree) → t ≡ rooted_of start →
      told_of (record { setting = s; search_radius = radius; tree = t; cost = no_costs }) Done ≡ setup_of (planner_of p) limits segment max radius start goal table
  unfolding setup_of planner_of
  setup_done e l t r =
      let usable = usable_root _ _ start e (ap (λ (x : Tree). x.count) r) in
      rw (← is) (answers.setup_done (planner_of p) _ _ _ (and_true _ _ e l) _ usable _ (ap (λ (x : Tree). tree_of x no_costs) r ∙ rooted_tree start))
