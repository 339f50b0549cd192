-- A construction with the keep-outs that are added to it, and if that is done so many queries, one after the other on the same route buffer.
use Rattle.std.specs.Prelude.{ℕ, zero, suc, cond, List, eqb, Float}
use Rattle.answer.specs.Number.{number_of}
use Rattle.plan.specs.Solve.{Outcome}
use Rattle.roadmap.specs.Map.{Milestone}
use Rattle.prm.specs.Planner as prm
use Rattle.prm.specs.Planner.{Given}
use Rattle.prm.specs.Construct.{Construction}
use Rattle.prm.specs.Query.{Reply, query_of}

-- the last of so many queries, each on the route that the one before left; the first reply where there is none
unfoldable pub queries_of : prm.View → ℕ → Reply → Reply
queries_of planner zero first = first
queries_of planner (suc n) first = query_of planner (queries_of planner n first).route

-- before any query: the answer of what was built, and the route as it came
abbrev pub built_reply : Construction → List Float → Reply
built_reply built route = record { answer = built.answer; count = 0; route = route }

abbrev pub charted_of : Construction → Reply → Outcome Given (List Milestone)
charted_of built reply =
    record { planner = built.planner; answer = reply.answer; count = reply.count; taken = built.taken; route = reply.route }

-- queries only where the building is done
unfoldable pub chart_of : (prm.View → List Float → Construction) → ℕ → prm.View → List Float → List Float → Outcome Given (List Milestone)
chart_of build queries planner samples route =
    let built = build planner samples in
    let first = built_reply built route in
    charted_of built (cond (eqb (number_of built.answer) 0) (queries_of built.planner queries first) first)
