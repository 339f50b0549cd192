-- What a call of a script leaves of its planner, by its verb. Each planner's calls say what its setup, its solve and the others leave.
use Rattle.std.specs.Prelude.{Bool, true, false}
use Rattle.grammar.specs.declared.Verb.{Verb}
use Rattle.grammar.specs.declared.Verb.TheVariants.{Setup, Keepout, Solve, Construct, Goals, Query, Tables}

-- whether the call was made, and the planner after it
pub record Left (A : Type 0) : Type 0 where
  pub made : Bool
  pub planner : A

abbrev leaves : {A : Type 0} → A → Left A
leaves v = record { made = true; planner = v }

-- the planner has no such call, and is kept
abbrev pub no_call : {A : Type 0} → A → Left A
no_call v = record { made = false; planner = v }

-- a tree planner's calls: before it, and after a setup, a keep-out and a solve
unfoldable pub tree_call : {A : Type 0} → A → A → A → A → Verb → Left A
tree_call before setup keepout solved Setup = leaves setup
tree_call before setup keepout solved Keepout = leaves keepout
tree_call before setup keepout solved Solve = leaves solved
tree_call before setup keepout solved Tables = leaves before
tree_call before setup keepout solved _ = no_call before

-- PRM's: before it, and after a setup, a keep-out, a construction, and start and goal replaced; a query changes nothing
unfoldable pub prm_call : {A : Type 0} → A → A → A → A → A → Verb → Left A
prm_call before setup keepout constructed goals Setup = leaves setup
prm_call before setup keepout constructed goals Keepout = leaves keepout
prm_call before setup keepout constructed goals Construct = leaves constructed
prm_call before setup keepout constructed goals Goals = leaves goals
prm_call before setup keepout constructed goals Query = leaves before
prm_call before setup keepout constructed goals Tables = leaves before
prm_call before setup keepout constructed goals _ = no_call before
