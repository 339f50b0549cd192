-- Document 01, "RRT*": neighbours are the nodes with distance(new, node) strictly below search_radius, in index order.
use Rattle.std.specs.Prelude.{ℕ, ◌+◌, ◌≤◌, ◌<◌, cond, List, [], ◌∷◌, ◌≡◌, length, take, Float}
use Rattle.std.specs.Float.Ieee.{lt}
use Rattle.std.specs.List.{All}
use Rattle.state.specs.Distance.{distance_of}
use Rattle.state.specs.declared.State.{State}

-- among the nodes from i on
unfoldable pub neighbours_from : Float → State → ℕ → List State → List ℕ
neighbours_from radius new i [] = []
neighbours_from radius new i (x ∷ xs) =
    let later = neighbours_from radius new (i + 1) xs in
    cond (lt (distance_of new x) radius) (i ∷ later) later

unfoldable pub neighbours_of : Float → State → List State → List ℕ
neighbours_of radius new states = neighbours_from radius new 0 states

-- each is the number of one of n nodes
abbrev pub Numbers : ℕ → List ℕ → Type 0
Numbers n l = All (λ i. i < n) l

-- the first many of a list are the neighbours
pub record Found (radius : Float) (new : State) (n : ℕ) (states : List State) (many : ℕ) (found : List ℕ) : Type 0 where
  pub is : take many found ≡ neighbours_of radius new states
  pub few : many ≤ n
  pub numbers : Numbers n (take many found)
  pub sized : length found ≡ 512
