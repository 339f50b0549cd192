-- Document 01, "PRM construction". On a roadmap that isn't empty: done, 0 samples taken, nothing changes. Otherwise each valid sample
-- becomes a milestone; it is joined to every earlier milestone whose distance(new, earlier) is strictly below connection_radius and whose
-- motion new to earlier is accepted. "Sizes and answers": a valid sample that would be milestone 257 is answered with 4 and leaves the
-- roadmap empty; it counts as taken.
use Rattle.std.specs.Prelude.{ℕ, ◌+◌, Bool, ◌&&◌, cond, List, [], ◌∷◌, eqb, ltb, length, Float}
use Rattle.std.specs.Float.Ieee.{lt}
use Rattle.answer.specs.declared.Answer.{Answer}
use Rattle.answer.specs.declared.Answer.TheVariants.{Done, Full}
use Rattle.state.specs.Distance.{distance_of}
use Rattle.state.specs.declared.State.{State}
use Rattle.fields.specs.declared.Limits.{Limits}
use Rattle.keep_out.specs.declared.KeepOut.{KeepOut}
use Rattle.motion.specs.Valid.{valid_of}
use Rattle.motion.specs.Accepts.{accepts_of}
use Rattle.roadmap.specs.Map.{Milestone, add_of, flags_of}
use Rattle.roadmap.specs.View.{milestones_of}
use Rattle.roadmap.specs.declared.Roadmap.{Roadmap}
use Rattle.construct.specs.declared.Built.{Built}

-- strictly inside the radius, and the motion from the new one to the earlier is accepted
unfoldable pub joined_of : Limits → Float → List KeepOut → Float → State → State → Bool
joined_of limits segment ks radius new earlier = lt (distance_of new earlier) radius && accepts_of limits segment ks new earlier

-- how a construction ends
pub record Constructed : Type 0 where
  pub map : List Milestone
  pub answer : Answer
  pub taken : ℕ

-- each sample in turn, after `taken` of them
unfoldable pub run_of : Limits → Float → List KeepOut → Float → List Milestone → ℕ → List State → Constructed
run_of limits segment ks radius ms taken [] = record { map = ms; answer = Done; taken = taken }
run_of limits segment ks radius ms taken (s ∷ ss) =
    let passed = run_of limits segment ks radius ms (taken + 1) ss in
    let grown = add_of ms s (flags_of (joined_of limits segment ks radius) ms s) in
    let added = run_of limits segment ks radius grown (taken + 1) ss in
    let full : Constructed = record { map = []; answer = Full; taken = taken + 1 } in
    cond (valid_of limits ks s) (cond (ltb (length ms) 256) added full) passed

-- a roadmap that is empty is built of the samples; another is kept
unfoldable pub construct_of : Limits → Float → List KeepOut → Float → List Milestone → List State → Constructed
construct_of limits segment ks radius ms samples =
    let run = run_of limits segment ks radius [] 0 samples in
    cond (eqb (length ms) 0) run (record { map = ms; answer = Done; taken = 0 })

-- what a construction gave to its caller: the roadmap that it left, and what it answered
abbrev pub built_of : Roadmap → Built → Constructed
built_of m r = record { map = milestones_of m; answer = r.answer; taken = r.taken }
