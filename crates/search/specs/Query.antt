-- Document 01, "PRM query", the route: start state, then milestones in order. "Sizes and answers": first 3 x count numbers written, rest kept.
use Rattle.std.specs.Prelude.{ℕ, ◌+◌, ◌<◌, Bool, Option, MatchOption, List, [], ◌∷◌, map, ◌≡◌, length, Float}
use Rattle.std.specs.List.{All}
use Rattle.fields.specs.Satisfied.{satisfied_of}
use Rattle.state.specs.declared.State.{State}
use Rattle.fields.specs.declared.Limits.{Limits}
use Rattle.fields.specs.declared.Goal.{Goal}
use Rattle.keep_out.specs.declared.KeepOut.{KeepOut}
use Rattle.tree.specs.Table.{Nodes}
use Rattle.route.specs.Path.{path_of}
use Rattle.route.specs.Written.{written_of}
use Rattle.roadmap.specs.Map.{Milestone, milestone_at}
use Rattle.queue.specs.Places.{Place, push_of}
use Rattle.search.specs.Search.{connections_of, neighbours_of, Found, nothing, here, search_of}

-- whether the milestone i satisfies the goal
unfoldable pub goal_of : Goal → List Milestone → ℕ → Bool
goal_of goal ms i = satisfied_of goal (milestone_at ms i).at

-- breadth first from the start connections; a roadmap has at most 256 milestones to take
unfoldable pub sought_of : Limits → Float → List KeepOut → Float → State → Goal → List Milestone → Found
sought_of limits segment ks radius start goal ms =
    search_of 256 (goal_of goal ms) (neighbours_of ms) (push_of 0 [] (connections_of limits segment ks radius start ms)) 0

-- each place has the number of one of the first n milestones
abbrev pub Numbers : ℕ → List Place → Type 0
Numbers n = All (λ (p : Place). p.number < n)

-- what a search found: nothing, or a place of the queue, whose milestones are among the first n
abbrev pub Sought : Found → ℕ → List Place → Option ℕ → Type 0
Sought found n q place = MatchOption place (found ≡ nothing) (λ p. (found ≡ here q p) × (p < length q) × Numbers n q)

-- the milestones' states
abbrev pub states_of : List Milestone → List State
states_of = map (λ (m : Milestone). m.at)

-- The queue as a tree: its root is the start, and the place p is the node p + 1, under that from which it was reached. A root's parent is
-- 512, no node's number.
unfoldable pub tree_of : State → (ℕ → State) → List Place → Nodes
tree_of start at q = record { states = start ∷ map (λ (p : Place). at p.number) q; parents = 512 ∷ map (λ (p : Place). p.from) q }

-- the route from the start to what was found: that of the tree
unfoldable pub route_of : State → List Milestone → Found → List State
route_of start ms nothing = []
route_of start ms (here q p) = path_of (tree_of start (λ (i : ℕ). (milestone_at ms i).at) q) (p + 1)

-- the route of a query; none where there is no start connection, no goal milestone, or none reachable
unfoldable pub query_of : Limits → Float → List KeepOut → Float → State → Goal → List Milestone → List State
query_of limits segment ks radius start goal ms = route_of start ms (sought_of limits segment ks radius start goal ms)

-- a route was written, and n is the number of its states
pub record Routed (path : List State) (old : List Float) (n : ℕ) (new : List Float) : Type 0 where
  pub count : n ≡ length path
  pub memory : new ≡ written_of path old
