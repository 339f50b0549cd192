-- Document 01, "Sizes and answers", for a query: 1, 8, 5, 6, 7 in that order, and then the route: start state, then milestones in order.
use Rattle.std.specs.Prelude.{ℕ, cond, List, eqb, ltb, length, Float}
use Rattle.answer.specs.declared.Answer.{Answer}
use Rattle.answer.specs.declared.Answer.TheVariants.{Done, Uninitialised, Unsampled, InvalidStart, NoSolution, Room}
use Rattle.state.specs.declared.State.{State}
use Rattle.motion.specs.Valid.{valid_of}
use Rattle.route.specs.Written.{written_of}
use Rattle.plan.specs.Plan.{unset, set}
use Rattle.search.specs.Query as search
use Rattle.prm.specs.Planner.{View}
use Rattle.prm.specs.declared.Queried.{Queried}

-- all that a query gives: answer, count, and every number of the route buffer
pub record Reply : Type 0 where
  pub answer : Answer
  pub count : ℕ
  pub route : List Float

abbrev pub queried_of : Queried → List Float → Reply
queried_of r route = record { answer = r.answer; count = r.count; route = route }

abbrev pub refused_of : Answer → List Float → Reply
refused_of answer route = record { answer = answer; count = 0; route = route }

-- the length that a route buffer needs
abbrev pub needed : ℕ
needed = 771

-- a route of no state is none
unfoldable pub found_of : List State → List Float → Reply
found_of path route =
    cond (eqb (length path) 0) (refused_of NoSolution route) (record { answer = Done; count = length path; route = written_of path route })

unfoldable pub query_of : View → List Float → Reply
query_of unset route = refused_of Uninitialised route
query_of (set g ms) route =
    let path = search.query_of g.limits g.segment g.keep_outs g.radius g.start g.goal ms in
    let started = cond (valid_of g.limits g.keep_outs g.start) (found_of path route) (refused_of InvalidStart route) in
    let sampled = cond (eqb (length ms) 0) (refused_of Unsampled route) started in
    cond (ltb (length route) needed) (refused_of Room route) sampled
