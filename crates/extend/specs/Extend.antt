-- Document 01, "Tree step" with its append: an accepted state is appended under the nearest node, unless it would be node 513.
use Rattle.std.specs.Prelude.{◌≤◌, ◌<◌, Bool, cond, List, ◌≡◌, ltb, length, Float}
use Rattle.state.specs.declared.State.{State}
use Rattle.fields.specs.declared.Limits.{Limits}
use Rattle.keep_out.specs.declared.KeepOut.{KeepOut}
use Rattle.tree.specs.Table.{Nodes, nodes_of, grown_of}
use Rattle.tree.specs.declared.Tree.{Tree}
use Rattle.step.specs.Step.{step_of}
use Rattle.step.specs.declared.Stepped.{Stepped}
use Rattle.extend.specs.declared.Verdict.{Verdict}
use Rattle.extend.specs.declared.Verdict.TheVariants.{Refused, Full, Added}
use Rattle.extend.specs.declared.Extended.{Extended}

-- the tree after the step, what became of it, the new state, and whether that is the target itself
pub record Grown : Type 0 where
  pub nodes : Nodes
  pub verdict : Verdict
  pub at : State
  pub reached : Bool

unfoldable pub after_step : Nodes → Stepped → Grown
after_step nodes e =
    let made : Nodes → Verdict → Grown = λ n v. record { nodes = n; verdict = v; at = e.at; reached = e.reached } in
    cond e.accepted
    (cond (ltb (length nodes.states) 512) (made (grown_of nodes e.at e.parent) Added) (made nodes Full))
    (made nodes Refused)

unfoldable pub extend_of : Limits → Float → List KeepOut → Float → Nodes → State → Grown
extend_of limits segment ks max nodes target = after_step nodes (step_of limits segment ks max nodes.states target)

-- what the code's step gives, with the tree at exit
abbrev pub grown_with : Tree → Extended → Grown
grown_with t r = record { nodes = nodes_of t; verdict = r.verdict; at = r.at; reached = r.reached }

-- the step was made, and the tree has at least a root and at most 512 nodes
pub record Extends (limits : Limits) (segment : Float) (ks : List KeepOut) (max : Float) (nodes : Nodes) (target : State) (r : Extended) (t : Tree) : Type 0 where
  pub is : grown_with t r ≡ extend_of limits segment ks max nodes target
  pub some : 0 < t.count
  pub room : t.count ≤ 512
