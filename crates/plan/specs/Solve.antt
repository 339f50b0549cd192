-- Document 01, "Sizes and answers": a solve answers 1, 8, 2 in that order (the whole list before any work), and then what its run ends with.
use Rattle.std.specs.Prelude.{ℕ, cond, List, [], ltb, length, Float}
use Rattle.answer.specs.declared.Answer.{Answer}
use Rattle.answer.specs.declared.Answer.TheVariants.{Uninitialised, BadInput, Room}
use Rattle.state.specs.declared.State.{State}
use Rattle.samples.specs.Samples.{good_samples, samples_of}
use Rattle.route.specs.Written.{written_of}
use Rattle.plan.specs.Plan.{Planner, unset, set}
use Rattle.plan.specs.declared.Solved.{Solved}

-- how a run ended: the tables, the answer, the route (none unless the answer is 0) and the samples taken
pub record Ended (A : Type 0) : Type 0 where
  pub tables : A
  pub answer : Answer
  pub path : List State
  pub taken : ℕ

abbrev pub no_route : {A : Type 0} → A → Answer → ℕ → Ended A
no_route tables answer taken = record { tables = tables; answer = answer; path = []; taken = taken }

-- all that a solve gives: planner, answer, count, taken, and every number of the route buffer
pub record Outcome (P A : Type 0) : Type 0 where
  pub planner : Planner P A
  pub answer : Answer
  pub count : ℕ
  pub taken : ℕ
  pub route : List Float

-- a planner's solve: what it was answered, and the route buffer after it
abbrev pub outcome_of : {P A : Type 0} → Planner P A → Solved → List Float → Outcome P A
outcome_of planner solved route = record { planner = planner; answer = solved.answer; count = solved.count; taken = solved.taken; route = route }

-- a refusal keeps all
abbrev pub refused_of : {P A : Type 0} → Planner P A → Answer → List Float → Outcome P A
refused_of planner answer route = record { planner = planner; answer = answer; count = 0; taken = 0; route = route }

-- the first 3 x count numbers are written, the rest is kept
unfoldable pub ended_of : {P A : Type 0} → P → Ended A → List Float → Outcome P A
ended_of plan e route =
    record { planner = set plan e.tables; answer = e.answer; count = length e.path; taken = e.taken; route = written_of e.path route }

-- `needed` is the length that the route buffer needs, and `run` is the planner's work on the samples
unfoldable pub solve_with : {P A : Type 0} → ℕ → (P → A → List State → Ended A) → Planner P A → List Float → List Float → Outcome P A
solve_with needed run unset samples route = refused_of unset Uninitialised route
solve_with needed run (set plan tables) samples route =
    let done = ended_of plan (run plan tables (samples_of samples)) route in
    let checked = cond (good_samples samples) done (refused_of (set plan tables) BadInput route) in
    cond (ltb (length route) needed) (refused_of (set plan tables) Room route) checked
