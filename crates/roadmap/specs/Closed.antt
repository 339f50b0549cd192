-- The closed form of a roadmap, from its milestones' states alone. Between two milestones the test goes from the newer to the earlier.
-- The theorem `closed` says that a construction gives it, for the valid samples.
use Rattle.std.specs.Prelude.{Bool, false, List, [], ◌∷◌, ◌++◌, map}
use Rattle.state.specs.declared.State.{State}
use Rattle.roadmap.specs.Map.{Milestone}

-- the milestones of the second list, after those of the first
unfoldable pub rows_of : (State → State → Bool) → List State → List State → List Milestone
rows_of joins before [] = []
rows_of joins before (s ∷ after) =
    record { at = s; legs = map (joins s) before ++ (false ∷ map (λ (t : State). joins t s) after) } ∷ rows_of joins (before ++ (s ∷ [])) after

-- all of them, after none
unfoldable pub roadmap_of : (State → State → Bool) → List State → List Milestone
roadmap_of joins states = rows_of joins [] states
