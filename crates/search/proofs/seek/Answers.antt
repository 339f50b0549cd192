use Prim.Native.Nat.{ℕ, ◌<◌, ◌≤◌}
use mathlib.Core.Path.{◌≡◌, sym, ◌∙◌, ap}
use native.Mathlib.Omega.{arith}
use lib.ListN.{length, get_or}
use Rattle.laws.specs.Rest.{within}
use Rattle.state.specs.declared.State.{State}
use Rattle.state.specs.Rows.{nowhere, state_at}
use Rattle.fields.specs.Satisfied.{satisfied_of}
use Rattle.roadmap.specs.View.{milestones_of}
use Rattle.queue.specs.Places.{Place}
use Rattle.queue.proofs.Tables.{held_few, places_long, place_is, number_low}
use Rattle.search.specs.Search.{place_at}
use Rattle.search.specs.Query.{goal_of}
use Rattle.search.proofs.Milestones.{states_long, states_few}
use Rattle.search.proofs.Breadth.{seeking_starts, seeking_goal, seeking_next, seeking_ends}
use Rattle.search.proofs.Queries.{goal_is, next_is, next_low}
use Rattle.search.proofs.seek.Goals as goal
use Rattle.search.proofs.seek.Goals.{In-places}

-- a turn
module _ (c : In-places) where
  -- the number that is taken
  abbrev number : ℕ
  number = get_or c.queue.inside.order c.places.place 0

  taken : (place_at c.places.queue c.places.place).number ≡ number
  unfolding place_at
  taken = ap (λ (p : Place). p.number) (place_is c.queue.inside _ c.queue.view_is c.places.place _ c.places-test.true)

  more : c.places.place < length c.places.queue
  more = omega (arith, places_long c.queue.inside _ c.queue.view_is)

  few : length c.places.queue ≤ 256
  few = omega (arith, places_long c.queue.inside _ c.queue.view_is, held_few c.queue.inside c.queue.invariant)

  -- it is that of a milestone
  low : number < length (milestones_of c.args.map.now)
  low = number_low c.queue.inside _ c.queue.view_is _ c.places.place c.places.invariant.low c.places-test.true

  many : length c.states-milestones.result.now ≡ length (milestones_of c.args.map.now)
  many = ap length c.states-milestones.ensures ∙ states_long c.args.map.now

  -- whether the milestone satisfies the goal
  met : (d : State) → goal_of c.args.goal (milestones_of c.args.map.now) number ≡ satisfied_of c.args.goal (get_or c.states-milestones.result.now number d)
  met d =
      let table = c.states-milestones.result.now in
      let state = ap (λ l. state_at l number) (sym c.states-milestones.ensures) ∙ within table number nowhere d (omega (arith, low, many)) in
      goal_is c.args.goal (milestones_of c.args.map.now) number low ∙ ap (satisfied_of c.args.goal) state

pub places-init : goal.places-init
places-init c = seeking_starts _ _ _ _ c.requires

pub offset_bounds-milestones-number : goal.offset_bounds-milestones-number
offset_bounds-milestones-number c = omega (arith, low (goal.at.offset_bounds-milestones-number c).In-places, states_few c.args.map.now)

pub bounds-milestones-number : goal.bounds-milestones-number
bounds-milestones-number c =
    let w = (goal.at.bounds-milestones-number c).In-places in
    omega (arith, low w, many w)

pub returns-then-is_satisfied : goal.returns-then-is_satisfied
returns-then-is_satisfied c =
    let w = (goal.at.returns-then-is_satisfied c).In-places in
    let h = c.places.invariant in
    (seeking_goal _ _ _ _ h (few w) (more w) _ (taken w) (met w _ ∙ sym c.is_satisfied.ensures ∙ c.if-is_satisfied.true), more w, h.low)

pub spread-requires : goal.spread-requires
spread-requires c =
    let w = (goal.at.spread-requires c).In-places in
    (omega (arith, low w, states_few c.args.map.now), omega (arith, many w, states_few c.args.map.now))

pub places-preserved : goal.places-preserved
places-preserved c =
    let w = (goal.at.places-preserved c).In-places in
    let map = c.args.map.now in
    let unmet = met w _ ∙ sym c.is_satisfied.ensures ∙ c.if-is_satisfied.false in
    seeking_next _ _ _ _ c.places.invariant (few w) (more w) _ (taken w) _ unmet (next_low map _ (low w)) (rw (next_is map _ (low w), ← many w) c.spread.ensures)

pub returns : goal.returns
returns c = seeking_ends _ _ _ _ c.places.invariant (omega (arith, places_long c.queue.inside _ c.queue.view_is))
