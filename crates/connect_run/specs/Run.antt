-- Document 01, "RRT-Connect", over a list of samples: each makes a round, until one ends the run or the list is used up (answer 3). With no
-- goal root and an empty list that keeps no root.
use Rattle.std.specs.Prelude.{ℕ, ◌+◌, ◌≤◌, ◌<◌, cond, List, [], ◌∷◌, ◌≡◌, length, Float}
use Rattle.answer.specs.declared.Answer.TheVariants.{SamplesEnded}
use Rattle.state.specs.declared.State.{State}
use Rattle.fields.specs.declared.Goal.{Goal}
use Rattle.fields.specs.declared.Length.{Length}
use Rattle.mount.specs.declared.Mount.{Mount}
use Rattle.samples.specs.Samples.{samples_of}
use Rattle.tree.specs.declared.Tree.{Tree}
use Rattle.route.specs.Written.{written_of}
use Rattle.plan.specs.Plan.{Plan, plan_from}
use Rattle.plan.specs.Solve.{Ended, no_route}
use Rattle.plan.specs.declared.Solved.{Solved}
use Rattle.turn.specs.Trees.{Trees, trees_at}
use Rattle.round.specs.Round.{Round, round_of}
use Rattle.ending.specs.Ending.{goes_on_of, answer_of, end_path}

-- what a round leads to: `later` is the run over the samples that are left
unfoldable pub after_of : Round → ℕ → Ended Trees → Ended Trees
after_of r taken later =
    let here : Ended Trees = record { tables = r.trees; answer = answer_of r.ends; path = end_path r.ends r.trees; taken = taken } in
    cond (goes_on_of r.ends) later here

unfoldable pub run_of : Plan → Trees → ℕ → List State → Ended Trees
run_of p trees taken [] = no_route trees SamplesEnded taken
run_of p trees taken (s ∷ ss) =
    let r = round_of p trees s in
    let later = run_of p r.trees (taken + 1) ss in
    after_of r (taken + 1) later

-- what the code's run gives: start and goal are the trees before it, start' and goal' those after it
pub record Runs (mount : Mount) (max : Length) (target : Goal) (start goal : Tree) (samples old : List Float) (r : Solved) (start' goal' : Tree) (new : List Float) : Type 0 where
  pub ended : Ended Trees
  pub is : ended ≡ run_of (plan_from mount max target) (trees_at start goal) 0 (samples_of samples)
  pub trees : trees_at start' goal' ≡ ended.tables
  pub answer : r.answer ≡ ended.answer
  pub count : r.count ≡ length ended.path
  pub taken : r.taken ≡ ended.taken
  pub memory : new ≡ written_of ended.path old
  pub some : 0 < start'.count
  pub room : (start'.count ≤ 512) × (goal'.count ≤ 512)
