-- Document 01, "PRM query". Start connections: milestones strictly inside connection_radius with an accepted motion start to milestone.
-- Breadth-first from them in index order, neighbours ascending, goal tested when a milestone is taken from the queue.
use Rattle.std.specs.Prelude.{ℕ, zero, suc, ◌+◌, Bool, cond, List, ltb, length, get_or, Float}
use Rattle.state.specs.declared.State.{State}
use Rattle.fields.specs.declared.Limits.{Limits}
use Rattle.keep_out.specs.declared.KeepOut.{KeepOut}
use Rattle.roadmap.specs.Map.{Milestone, milestone_at, flags_of}
use Rattle.construct.specs.Construct.{joined_of}
use Rattle.queue.specs.Places.{numbers_of, Place, push_of}

-- start connections, in index order: the test is that of a leg, from the start to the milestone
unfoldable pub connections_of : Limits → Float → List KeepOut → Float → State → List Milestone → List ℕ
connections_of limits segment ks radius start ms = numbers_of 0 (flags_of (joined_of limits segment ks radius) ms start)

-- neighbours ascend
unfoldable pub neighbours_of : List Milestone → ℕ → List ℕ
neighbours_of ms i = numbers_of 0 (milestone_at ms i).legs

-- the place p
unfoldable pub place_at : List Place → ℕ → Place
place_at q p = get_or q p (record { number = 0; from = 0 })

-- what the search found: nothing, or the queue and the place of a goal milestone
pub data Found : Type 0 where
  nothing : Found
  here : List Place → ℕ → Found

-- each place in turn, from p on; the goal is tested when a place is taken from the queue
unfoldable pub search_of : ℕ → (ℕ → Bool) → (ℕ → List ℕ) → List Place → ℕ → Found
search_of zero goal next q p = nothing
search_of (suc fuel) goal next q p =
    let u = (place_at q p).number in
    let later = search_of fuel goal next (push_of (p + 1) q (next u)) (p + 1) in
    let tested = cond (goal u) (here q p) later in
    cond (ltb p (length q)) tested nothing
