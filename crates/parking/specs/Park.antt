-- Keep-outs that are added after a construction: those of the columns' rows after the setup's.
use Rattle.std.specs.Prelude.{ℕ, zero, suc, ◌+◌, cond, List, eqb, ltb, Float}
use Rattle.answer.specs.Number.{number_of}
use Rattle.answer.specs.declared.Answer.TheVariants.{Done, Full}
use Rattle.columns.specs.Rows.{keep_out_at_of}
use Rattle.plan.specs.Setup.{Told}
use Rattle.roadmap.specs.Map.{Milestone}
use Rattle.prm.specs.Planner as prm
use Rattle.prm.specs.Planner.{Given}
use Rattle.prm.specs.Construct.{Construction, construct_of}
use Rattle.prm.specs.Adding.{add_of}

-- the answer where a keep-out is to come from a row past the 32 that there are: the 33rd keep-out
abbrev pub full_of : prm.View → Told Given (List Milestone)
full_of planner = record { planner = planner; answer = Full }

-- the keep-outs of k rows from row j on, one by one; the first refusal is the answer, and nothing follows it
unfoldable pub park_of : List ℕ → List Float → prm.View → ℕ → ℕ → Told Given (List Milestone)
park_of kinds numbers planner zero j = record { planner = planner; answer = Done }
park_of kinds numbers planner (suc k) j =
    let told = add_of planner (keep_out_at_of kinds numbers j) in
    let later = park_of kinds numbers told.planner k (j + 1) in
    let added = cond (eqb (number_of told.answer) 0) later told in
    cond (ltb j 32) added (full_of planner)

-- a construction, and if that is done the keep-outs of the next rows; the samples taken are the construction's
unfoldable pub build_of : List ℕ → List Float → ℕ → ℕ → prm.View → List Float → Construction
build_of kinds numbers first added planner samples =
    let built = construct_of planner samples in
    let parked = park_of kinds numbers built.planner added first in
    let longer : Construction = record { planner = parked.planner; answer = parked.answer; taken = built.taken } in
    cond (eqb (number_of built.answer) 0) longer built
