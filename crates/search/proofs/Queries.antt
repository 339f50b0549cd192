-- A query's route from what the search found.
use Prim.Native.Nat.{ℕ, ◌+◌, ◌<◌}
use mathlib.Core.List.{List, [], ◌∷◌, map}
use mathlib.Core.Path.{◌≡◌, refl, ◌∙◌, ap₂}
use native.Mathlib.Omega.{arith}
use lib.ListN.{length}
use lib.Ieee.{Float}
use Rattle.std.specs.List.{All}
use Rattle.std.proofs.lemmas.List.{length-map}
use Rattle.std.proofs.lemmas.List.Elements.{All-nil, All-head, All-tail}
use Rattle.state.specs.declared.State.{State}
use Rattle.state.specs.Rows.{state_at}
use Rattle.fields.specs.declared.Limits.{Limits}
use Rattle.fields.specs.declared.Goal.{Goal}
use Rattle.fields.specs.Satisfied.{satisfied_of}
use Rattle.keep_out.specs.declared.KeepOut.{KeepOut}
use Rattle.route.specs.Path.{path_of}
use Rattle.legs.specs.Bits.{leg_at}
use Rattle.roadmap.specs.Map.{Milestone, milestone_at}
use Rattle.roadmap.specs.View.{span_of, milestones_of}
use Rattle.roadmap.specs.declared.Roadmap.{Roadmap}
use Rattle.roadmap.proofs.Span.{span_long}
use Rattle.construct.specs.Construct.{joined_of}
use Rattle.queue.specs.Places.{numbers_of, Place, push_of}
use Rattle.queue.proofs.Places.{numbers_low, push_low}
use Rattle.search.specs.Search.{neighbours_of, connections_of, Found, nothing, here, search_of}
use Rattle.search.specs.Query.{goal_of, sought_of, Numbers, states_of, tree_of, route_of, query_of}
use Rattle.search.proofs.Milestones.{at_is, flags_are, legs_are}

-- a milestone that satisfies the goal
pub goal_is : (goal : Goal) (ms : List Milestone) (i : ℕ) → i < length ms → goal_of goal ms i ≡ satisfied_of goal (state_at (states_of ms) i)
unfolding goal_of
goal_is goal ms i h = rw (at_is ms i h)

-- the neighbours of a milestone, which are milestones
module _ (m : Roadmap) (i : ℕ) (low : i < length (milestones_of m)) where
  pub next_is : neighbours_of (milestones_of m) i ≡ numbers_of 0 (span_of 0 (length (milestones_of m)) (leg_at m.legs i))
  unfolding neighbours_of
  next_is = rw (legs_are m i low)

  pub next_low : All (λ (v : ℕ). v < length (milestones_of m)) (neighbours_of (milestones_of m) i)
  next_low = rw next_is (numbers_low 0 (length (milestones_of m)) _ (omega (arith, span_long 0 (length (milestones_of m)) (leg_at m.legs i))))

-- two readings that agree on the numbers of a queue
same_states :
    (n : ℕ) (f g : ℕ → State) → ((i : ℕ) → i < n → f i ≡ g i) → (q : List Place) → Numbers n q →
    map (λ (p : Place). f p.number) q ≡ map (λ (p : Place). g p.number) q
same_states n f g same [] low = refl
same_states n f g same (p ∷ q) low =
    ap₂ (λ (x : State) (l : List State). x ∷ l) (same p.number (All-head (λ (p : Place). p.number < n) p q low))
    (same_states n f g same q (All-tail (λ (p : Place). p.number < n) p q low))

module _ (limits : Limits) (segment : Float) (ks : List KeepOut) (radius : Float) (start : State) (goal : Goal) (ms : List Milestone) (first : List Place)
    (is : first ≡ push_of 0 [] (numbers_of 0 (map (joined_of limits segment ks radius start) (states_of ms)))) where
  abbrev sought : Found
  sought = search_of 256 (goal_of goal ms) (neighbours_of ms) first 0

  abbrev query : List State
  query = query_of limits segment ks radius start goal ms

  -- the start connections are milestones
  pub first_low : Numbers (length ms) first
  first_low =
      let joins = joined_of limits segment ks radius start in
      let long = length-map (states_of ms) joins ∙ length-map ms (λ (m : Milestone). m.at) in
      rw is (push_low 0 (length ms) [] _ (All-nil (λ (p : Place). p.number < length ms)) (numbers_low 0 (length ms) (map joins (states_of ms)) (omega (arith, long))))

  query_is : query ≡ route_of start ms sought
  unfolding query_of sought_of connections_of
  query_is = rw (flags_are (joined_of limits segment ks radius) ms start, ← is)

  pub query_nothing : sought ≡ nothing → query ≡ []
  unfolding route_of
  query_nothing e = query_is ∙ rw e

  pub query_here :
      (q : List Place) (p : ℕ) → Numbers (length ms) q → sought ≡ here q p →
      query ≡ path_of (tree_of start (state_at (states_of ms)) q) (p + 1)
  unfolding route_of tree_of
  query_here q p low e = query_is ∙ rw (e, same_states (length ms) (λ (i : ℕ). (milestone_at ms i).at) (state_at (states_of ms)) (at_is ms) q low)
