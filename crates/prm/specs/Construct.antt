-- Document 01, "Sizes and answers", for a construction: 1, then 2 (the whole list first, also on a filled roadmap), then its work.
use Rattle.std.specs.Prelude.{ℕ, cond, List, Float}
use Rattle.answer.specs.declared.Answer.{Answer}
use Rattle.answer.specs.declared.Answer.TheVariants.{Uninitialised, BadInput}
use Rattle.samples.specs.Samples.{good_samples, samples_of}
use Rattle.plan.specs.Plan.{unset, set}
use Rattle.construct.specs.Construct as roadmap
use Rattle.construct.specs.declared.Built.{Built}
use Rattle.prm.specs.Planner.{View, planner_of}
use Rattle.prm.specs.declared.Prm.{Prm}

-- all that a construction gives
pub record Construction : Type 0 where
  pub planner : View
  pub answer : Answer
  pub taken : ℕ

-- a planner after a construction, and what that answered
abbrev pub constructed_of : Prm → Built → Construction
constructed_of p built = record { planner = planner_of p; answer = built.answer; taken = built.taken }

unfoldable pub construct_of : View → List Float → Construction
construct_of unset samples = record { planner = unset; answer = Uninitialised; taken = 0 }
construct_of (set given ms) samples =
    let built = roadmap.construct_of given.limits given.segment given.keep_outs given.radius ms (samples_of samples) in
    let done : Construction = record { planner = set given built.map; answer = built.answer; taken = built.taken } in
    cond (good_samples samples) done (record { planner = set given ms; answer = BadInput; taken = 0 })
