-- Document 01, "Tree step": nearest node, least distance(node, sample), a tie keeps the lowest index.
use Rattle.std.specs.Prelude.{ℕ, ◌+◌, cond, List, [], ◌∷◌, Float}
use Rattle.std.specs.Float.{binary64}
use Rattle.std.specs.Float.Ieee.{lt, of_bits}
use Rattle.state.specs.Distance.{distance_of}
use Rattle.state.specs.declared.State.{State}
use Rattle.nearest.specs.declared.Near.{Near}

-- the better of the best so far and the state at i, whose distance is d: a tie keeps the best so far
abbrev pub better_of : Near → ℕ → Float → Near
better_of b i d = cond (lt d b.far) (record { index = i; far = d }) b

-- from the best so far through the states from i on
unfoldable pub nearest_from : State → Near → ℕ → List State → Near
nearest_from s b i [] = b
nearest_from s b i (x ∷ xs) = nearest_from s (better_of b i (distance_of x s)) (i + 1) xs

-- of no state: the index 0 at the distance 0
unfoldable pub nearest_of : List State → State → Near
nearest_of [] s = record { index = 0; far = of_bits binary64 0 }
nearest_of (x ∷ xs) s = nearest_from s (record { index = 0; far = distance_of x s }) 1 xs
