-- The last arm of a `match` on a verb: a table with nothing for the verbs that come to it has nothing for one of them.
use mathlib.Core.List.{[], ◌∷◌, map}
use mathlib.Core.Path.{◌≡◌, refl}
use Rattle.grammar.specs.declared.Verb.{Verb}
use Rattle.grammar.specs.declared.Verb.TheVariants.{Setup, Keepout, Solve, Construct, Goals, Query, Tables, Distance, Between, Steer, Valid, Steps, Motion}

module _ {B : Type 0} (none : B) (row : Verb → B) where
  -- verbs that are none of the mount's own calls
  pub none_for_mount :
      map row (Keepout ∷ Solve ∷ Construct ∷ Goals ∷ Query ∷ Tables ∷ []) ≡ map (λ w. none) (Keepout ∷ Solve ∷ Construct ∷ Goals ∷ Query ∷ Tables ∷ []) →
      (verb : Verb) → (verb ≡ Setup → ⊥) → (verb ≡ Distance → ⊥) → (verb ≡ Between → ⊥) → (verb ≡ Steer → ⊥) → (verb ≡ Valid → ⊥) → (verb ≡ Steps → ⊥) → (verb ≡ Motion → ⊥) →
      none ≡ row verb
  none_for_mount same Setup setup _ _ _ _ _ _ = absurd (setup refl)
  none_for_mount same Keepout _ _ _ _ _ _ _ = cc
  none_for_mount same Solve _ _ _ _ _ _ _ = cc
  none_for_mount same Construct _ _ _ _ _ _ _ = cc
  none_for_mount same Goals _ _ _ _ _ _ _ = cc
  none_for_mount same Query _ _ _ _ _ _ _ = cc
  none_for_mount same Tables _ _ _ _ _ _ _ = cc
  none_for_mount same Distance _ distance _ _ _ _ _ = absurd (distance refl)
  none_for_mount same Between _ _ between _ _ _ _ = absurd (between refl)
  none_for_mount same Steer _ _ _ steer _ _ _ = absurd (steer refl)
  none_for_mount same Valid _ _ _ _ valid _ _ = absurd (valid refl)
  none_for_mount same Steps _ _ _ _ _ steps _ = absurd (steps refl)
  none_for_mount same Motion _ _ _ _ _ _ motion = absurd (motion refl)

  -- verbs that are none of a tree planner's calls
  pub none_for_tree :
      map row (Construct ∷ Goals ∷ Query ∷ Distance ∷ Between ∷ Steer ∷ Valid ∷ Steps ∷ Motion ∷ []) ≡ map (λ w. none) (Construct ∷ Goals ∷ Query ∷ Distance ∷ Between ∷ Steer ∷ Valid ∷ Steps ∷ Motion ∷ []) →
      (verb : Verb) → (verb ≡ Setup → ⊥) → (verb ≡ Keepout → ⊥) → (verb ≡ Solve → ⊥) → (verb ≡ Tables → ⊥) →
      none ≡ row verb
  none_for_tree same Setup setup _ _ _ = absurd (setup refl)
  none_for_tree same Keepout _ keepout _ _ = absurd (keepout refl)
  none_for_tree same Solve _ _ solve _ = absurd (solve refl)
  none_for_tree same Construct _ _ _ _ = cc
  none_for_tree same Goals _ _ _ _ = cc
  none_for_tree same Query _ _ _ _ = cc
  none_for_tree same Tables _ _ _ tables = absurd (tables refl)
  none_for_tree same Distance _ _ _ _ = cc
  none_for_tree same Between _ _ _ _ = cc
  none_for_tree same Steer _ _ _ _ = cc
  none_for_tree same Valid _ _ _ _ = cc
  none_for_tree same Steps _ _ _ _ = cc
  none_for_tree same Motion _ _ _ _ = cc

  -- verbs that are none of PRM's calls
  pub none_for_prm :
      map row (Solve ∷ Distance ∷ Between ∷ Steer ∷ Valid ∷ Steps ∷ Motion ∷ []) ≡ map (λ w. none) (Solve ∷ Distance ∷ Between ∷ Steer ∷ Valid ∷ Steps ∷ Motion ∷ []) →
      (verb : Verb) → (verb ≡ Setup → ⊥) → (verb ≡ Keepout → ⊥) → (verb ≡ Construct → ⊥) → (verb ≡ Goals → ⊥) → (verb ≡ Query → ⊥) → (verb ≡ Tables → ⊥) →
      none ≡ row verb
  none_for_prm same Setup setup _ _ _ _ _ = absurd (setup refl)
  none_for_prm same Keepout _ keepout _ _ _ _ = absurd (keepout refl)
  none_for_prm same Solve _ _ _ _ _ _ = cc
  none_for_prm same Construct _ _ construct _ _ _ = absurd (construct refl)
  none_for_prm same Goals _ _ _ goals _ _ = absurd (goals refl)
  none_for_prm same Query _ _ _ _ query _ = absurd (query refl)
  none_for_prm same Tables _ _ _ _ _ tables = absurd (tables refl)
  none_for_prm same Distance _ _ _ _ _ _ = cc
  none_for_prm same Between _ _ _ _ _ _ = cc
  none_for_prm same Steer _ _ _ _ _ _ = cc
  none_for_prm same Valid _ _ _ _ _ _ = cc
  none_for_prm same Steps _ _ _ _ _ _ = cc
  none_for_prm same Motion _ _ _ _ _ _ = cc
