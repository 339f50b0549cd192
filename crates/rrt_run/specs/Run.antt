-- Document 01, "RRT": each sample in turn makes a tree step. An accepted state is appended under the nearest node. If it satisfies the
-- goal, the route from root to it is the answer. An accepted motion that would add node 513 is answered with 4, and a list that is used
-- up with 3; the sample that meets 4 counts as taken.
use Rattle.std.specs.Prelude.{ℕ, ◌+◌, ◌≤◌, ◌<◌, cond, List, [], ◌∷◌, ◌≡◌, ltb, length, Float}
use Rattle.answer.specs.declared.Answer.TheVariants.{Done, SamplesEnded, Full}
use Rattle.fields.specs.Satisfied.{satisfied_of}
use Rattle.state.specs.declared.State.{State}
use Rattle.fields.specs.declared.Goal.{Goal}
use Rattle.fields.specs.declared.Length.{Length}
use Rattle.mount.specs.declared.Mount.{Mount}
use Rattle.samples.specs.Samples.{samples_of}
use Rattle.tree.specs.Table.{Nodes, nodes_of, grown_of}
use Rattle.step.specs.Step.{step_of}
use Rattle.step.specs.declared.Stepped.{Stepped}
use Rattle.tree.specs.declared.Tree.{Tree}
use Rattle.route.specs.Path.{path_of}
use Rattle.route.specs.Written.{written_of}
use Rattle.plan.specs.Plan.{Plan, plan_from}
use Rattle.plan.specs.Solve.{Ended, no_route}
use Rattle.plan.specs.declared.Solved.{Solved}

-- what follows a step: `refused` and `added` are the runs over the samples that are left
unfoldable pub after_of : Goal → Nodes → Nodes → Stepped → ℕ → Ended Nodes → Ended Nodes → Ended Nodes
after_of goal nodes grown e taken refused added =
    let found : Ended Nodes = record { tables = grown; answer = Done; path = path_of grown (length nodes.states); taken = taken } in
    cond e.accepted
    (cond (ltb (length nodes.states) 512) (cond (satisfied_of goal e.at) found added) (no_route nodes Full taken))
    refused

unfoldable pub run_of : Plan → Nodes → ℕ → List State → Ended Nodes
run_of p nodes taken [] = no_route nodes SamplesEnded taken
run_of p nodes taken (s ∷ ss) =
    let e = step_of p.limits p.segment p.keep_outs p.max nodes.states s in
    let grown = grown_of nodes e.at e.parent in
    let refused = run_of p nodes (taken + 1) ss in
    let added = run_of p grown (taken + 1) ss in
    after_of p.goal nodes grown e (taken + 1) refused added

-- what the code's run gives
pub record Runs (mount : Mount) (max : Length) (goal : Goal) (rooted : Tree) (samples old : List Float) (r : Solved) (t : Tree) (new : List Float) : Type 0 where
  pub ended : Ended Nodes
  pub is : ended ≡ run_of (plan_from mount max goal) (nodes_of rooted) 0 (samples_of samples)
  pub nodes : nodes_of t ≡ ended.tables
  pub answer : r.answer ≡ ended.answer
  pub count : r.count ≡ length ended.path
  pub taken : r.taken ≡ ended.taken
  pub memory : new ≡ written_of ended.path old
  pub some : 0 < t.count
  pub room : t.count ≤ 512
