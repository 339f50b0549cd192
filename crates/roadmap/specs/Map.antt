-- Document 01, "PRM construction": a roadmap's milestones in order, each with its neighbours, which ascend.
use Rattle.std.specs.Prelude.{ℕ, Bool, false, cond, Option, Some, None, List, [], ◌∷◌, ◌++◌, map, ltb, length, get_or}
use Rattle.state.specs.Rows.{nowhere}
use Rattle.state.specs.declared.State.{State}

-- a milestone, and by milestone number whether a leg joins the two
pub record Milestone : Type 0 where
  pub at : State
  pub legs : List Bool

-- the milestone at i; past the end no number and no leg
unfoldable pub milestone_at : List Milestone → ℕ → Milestone
milestone_at ms i = get_or ms i (record { at = nowhere; legs = [] })

-- what a caller reads at i
unfoldable pub milestone_of : List Milestone → ℕ → Option State
milestone_of ms i = cond (ltb i (length ms)) (Some (milestone_at ms i).at) None

-- whether a leg joins i and j
unfoldable pub leg_of : List Milestone → ℕ → ℕ → Bool
leg_of ms i j = get_or (milestone_at ms i).legs j false

-- each earlier milestone's mark for a new one
unfoldable pub mark_of : List Milestone → List Bool → List Milestone
mark_of [] fs = []
mark_of (m ∷ ms) [] = record { at = m.at; legs = m.legs ++ (false ∷ []) } ∷ mark_of ms []
mark_of (m ∷ ms) (f ∷ fs) = record { at = m.at; legs = m.legs ++ (f ∷ []) } ∷ mark_of ms fs

-- one milestone more, joined to the earlier ones whose flag is set, and not to itself
unfoldable pub add_of : List Milestone → State → List Bool → List Milestone
add_of ms s fs = mark_of ms fs ++ (record { at = s; legs = fs ++ (false ∷ []) } ∷ [])

-- the flags of a new milestone: which earlier ones it joins
unfoldable pub flags_of : (State → State → Bool) → List Milestone → State → List Bool
flags_of joins ms new = map (λ (m : Milestone). joins new m.at) ms
