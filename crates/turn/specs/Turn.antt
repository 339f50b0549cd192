-- Document 01, "RRT-Connect", one sample. The growing tree makes a tree step toward it. If a node was added and it is in the start tree
-- and satisfies the goal, that is the end. Otherwise, if a node was added, the other tree makes ONE tree step toward the new state; if
-- that step took the new state itself and was accepted, the trees join.
use Rattle.std.specs.Prelude.{◌≤◌, ◌<◌, Bool, ◌&&◌, cond, ◌≡◌, Float}
use Rattle.fields.specs.Satisfied.{satisfied_of}
use Rattle.fields.specs.declared.Goal.{Goal}
use Rattle.state.specs.declared.State.{State}
use Rattle.keep_out_table.specs.Table.{keep_outs_of}
use Rattle.mount.specs.declared.Mount.{Mount}
use Rattle.tree.specs.Table.{Nodes, nodes_of}
use Rattle.tree.specs.declared.Tree.{Tree}
use Rattle.extend.specs.Extend.{Grown, extend_of}
use Rattle.extend.specs.declared.Verdict.{Verdict}
use Rattle.extend.specs.declared.Verdict.TheVariants as verdict
use Rattle.plan.specs.Plan.{Plan}
use Rattle.turn.specs.declared.Ends.{Ends}
use Rattle.turn.specs.declared.Ends.TheVariants as ends

-- what the other tree's step leads to
unfoldable pub connect_ends_of : Verdict → Bool → Ends
connect_ends_of verdict.Refused reached = ends.GoesOn
connect_ends_of verdict.Full reached = ends.Full
connect_ends_of verdict.Added reached = cond reached ends.Joined ends.GoesOn

-- ---- one sample
abbrev pub plan_with : Mount → Float → Goal → Plan
plan_with mount max goal =
    record { limits = mount.limits; segment = mount.segment.value; keep_outs = keep_outs_of mount.table; max = max; goal = goal }

-- both trees after a sample, and what it led to
pub record After : Type 0 where
  pub growing : Nodes
  pub other : Nodes
  pub ends : Ends

unfoldable pub by_verdict : Verdict → After → After → After → After
by_verdict verdict.Refused refused full added = refused
by_verdict verdict.Full refused full added = full
by_verdict verdict.Added refused full added = added

-- a plan's tree step
abbrev pub step_with : Plan → Nodes → State → Grown
step_with p nodes target = extend_of p.limits p.segment p.keep_outs p.max nodes target

unfoldable pub turn_of : Plan → Bool → Nodes → Nodes → State → After
turn_of p from_start growing other sample =
    let e = step_with p growing sample in
    let f = step_with p other e.at in
    let alone : Ends → After = λ v. record { growing = e.nodes; other = other; ends = v } in
    let connected : After = record { growing = e.nodes; other = f.nodes; ends = connect_ends_of f.verdict f.reached } in
    by_verdict e.verdict (alone ends.GoesOn) (alone ends.Full) (cond (from_start && satisfied_of p.goal e.at) (alone ends.Goal) connected)

-- the other tree's step was made: what it led to, and the tree at exit, of a root and at most 512 nodes
pub record Connects (mount : Mount) (max : Float) (other : Nodes) (s : State) (r : Ends) (t : Tree) : Type 0 where
  pub grown : Grown
  pub is : grown ≡ extend_of mount.limits mount.segment.value (keep_outs_of mount.table) max other s
  pub tree : nodes_of t ≡ grown.nodes
  pub ends : r ≡ connect_ends_of grown.verdict grown.reached
  pub rooted : (0 < t.count) × (t.count ≤ 512)

-- the sample was taken: what it led to, and both trees at exit, the growing one first
pub record Turns (p : Plan) (from_start : Bool) (growing other : Nodes) (sample : State) (r : Ends) (t u : Tree) : Type 0 where
  pub is : record { growing = nodes_of t; other = nodes_of u; ends = r } ≡ turn_of p from_start growing other sample
  pub growing_rooted : (0 < t.count) × (t.count ≤ 512)
  pub other_rooted : (0 < u.count) × (u.count ≤ 512)
