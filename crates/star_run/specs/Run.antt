-- Document 01, "RRT*", over a list of samples. After the rewiring comes the goal test on the new state; the route follows the parents from the
-- new node. An accepted motion that would add node 513 is answered with 4, and a list that is used up with 3.
use Rattle.std.specs.Prelude.{ℕ, ◌+◌, ◌-◌, ◌≤◌, ◌<◌, cond, List, [], ◌∷◌, ◌≡◌, length, Float}
use Rattle.answer.specs.declared.Answer.TheVariants as answer
use Rattle.fields.specs.Satisfied.{satisfied_of}
use Rattle.state.specs.declared.State.{State}
use Rattle.fields.specs.declared.Goal.{Goal}
use Rattle.fields.specs.declared.Length.{Length}
use Rattle.keep_out.specs.declared.KeepOut.{KeepOut}
use Rattle.mount.specs.declared.Mount.{Mount}
use Rattle.samples.specs.Samples.{samples_of}
use Rattle.tree.specs.declared.Tree.{Tree}
use Rattle.extend.specs.declared.Verdict.{Verdict}
use Rattle.extend.specs.declared.Verdict.TheVariants as verdict
use Rattle.route.specs.Path.{path_of}
use Rattle.route.specs.Written.{written_of}
use Rattle.plan.specs.Solve.{Ended, no_route}
use Rattle.plan.specs.declared.Solved.{Solved}
use Rattle.star.specs.Grow.{Reach, plan_with, Costed, tree_of, grow_of}

-- what a setup gave, without the start
pub record StarPlan : Type 0 where
  pub reach : Reach
  pub goal : Goal

-- the plan that the code's values make
abbrev pub star_plan : Mount → Length → Length → Goal → StarPlan
star_plan mount max radius goal = record { reach = plan_with mount max.value radius.value; goal = goal }

-- the same under another list of keep-outs
abbrev pub star_under : StarPlan → List KeepOut → StarPlan
star_under p ks =
    let r = p.reach in
    record { reach = record { limits = r.limits; segment = r.segment; keep_outs = ks; max = r.max; radius = r.radius }; goal = p.goal }

-- the newest node
abbrev pub newest : Costed → ℕ
newest tree = length tree.nodes.states - 1

-- what follows a sample's step: `later` is the run over the samples that are left
unfoldable pub after_of : Goal → Costed → Verdict → State → ℕ → Ended Costed → Ended Costed
after_of goal tree verdict.Refused at taken later = later
after_of goal tree verdict.Full at taken later = no_route tree answer.Full taken
after_of goal tree verdict.Added at taken later =
    let found : Ended Costed = record { tables = tree; answer = answer.Done; path = path_of tree.nodes (newest tree); taken = taken } in
    cond (satisfied_of goal at) found later

unfoldable pub run_of : StarPlan → Costed → ℕ → List State → Ended Costed
run_of p tree taken [] = no_route tree answer.SamplesEnded taken
run_of p tree taken (s ∷ ss) =
    let g = grow_of p.reach tree s in
    let later = run_of p g.tree (taken + 1) ss in
    after_of p.goal g.tree g.verdict g.at (taken + 1) later

-- what the code's run gives
pub record Runs (mount : Mount) (max radius : Length) (goal : Goal) (rooted : Tree) (costs samples old : List Float) (r : Solved) (t : Tree) (costs' new : List Float) : Type 0 where
  pub ended : Ended Costed
  pub is : ended ≡ run_of (star_plan mount max radius goal) (tree_of rooted costs) 0 (samples_of samples)
  pub tree : tree_of t costs' ≡ ended.tables
  pub answer : r.answer ≡ ended.answer
  pub count : r.count ≡ length ended.path
  pub taken : r.taken ≡ ended.taken
  pub memory : new ≡ written_of ended.path old
  pub some : 0 < t.count
  pub room : t.count ≤ 512
