-- A route in lent memory: three numbers to a state from the front, and what lies beyond is kept.
use Rattle.std.specs.Prelude.{ℕ, ◌+◌, ◌*◌, ◌≤◌, ◌<◌, List, [], ◌∷◌, ◌++◌, ◌≡◌, length, take, drop, Float}
use Rattle.state.specs.declared.State.{State}
use Rattle.tree.specs.Table.{Nodes}
use Rattle.route.specs.Path.{path_of, upwards_of}

unfoldable pub flat_of : List State → List Float
flat_of [] = []
flat_of (s ∷ ss) = s.az ∷ s.el ∷ s.feed ∷ flat_of ss

-- the memory with a route in it
unfoldable pub written_of : List State → List Float → List Float
written_of path old = flat_of path ++ drop (3 * length path) old

-- three numbers stored from p on
unfoldable pub put_of : List Float → ℕ → State → List Float
put_of old p s = take p old ++ (s.az ∷ s.el ∷ s.feed ∷ drop (p + 3) old)

-- the route to the node k was written, and n is the number of its states
pub record Wrote (nodes : Nodes) (k : ℕ) (old : List Float) (n : ℕ) (new : List Float) : Type 0 where
  pub count : n ≡ length (path_of nodes k)
  pub memory : new ≡ written_of (path_of nodes k) old
  pub few : n ≤ length nodes.states

-- the way up from the node k was written from state number `from` on, and n is the number of its states
pub record Appended (nodes : Nodes) (k from : ℕ) (old : List Float) (n : ℕ) (new : List Float) : Type 0 where
  pub count : n ≡ length (upwards_of nodes k)
  pub memory : new ≡ take (3 * from) old ++ (flat_of (upwards_of nodes k) ++ drop (3 * (from + n)) old)
  pub few : n < length nodes.states
