-- What a keep-out leaves of a roadmap in closed form is the closed form of what stays (`leaves_closed`). `joins`, `gone` and `hit` are
-- any tests.
use mathlib.Core.Bool.{Bool, false, not, ◌&&◌, cond}
use mathlib.Core.List.{List, [], ◌∷◌, ◌++◌, map, append-nil, append_assoc}
use mathlib.Core.Path.{◌≡◌, refl, ◌∙◌, ap}
use Rattle.laws.specs.Order.{whether}
use Rattle.state.specs.declared.State.{State}
use Rattle.roadmap.specs.Keep.{keep_of}
use Rattle.roadmap.specs.Map.{Milestone, add_of}
use Rattle.roadmap.specs.Closed.{rows_of, roadmap_of}
use Rattle.roadmap.proofs.Rows.{add}
use Rattle.prune.specs.Prune.{left_of, leaves_of}
use Rattle.prune.proofs.Keep.{keep_append}

module _ (joins : State → State → Bool) (gone : State → Bool) (hit : State → State → Bool) where
  abbrev pub stays : State → Bool
  stays s = not (gone s)

  -- joined, and not hit
  abbrev pub joined : State → State → Bool
  joined new earlier = joins new earlier && not (hit new earlier)

  -- the closed form of those that stay of xs
  abbrev stood : List State → List Milestone
  stood xs = roadmap_of joined (keep_of stays xs)

  left : (s : State) (bs : List State) (rest : List Bool) → left_of gone hit s bs (map (joins s) bs ++ rest) ≡ map (joined s) (keep_of stays bs)
  unfolding left_of keep_of
  left s [] rest = refl
  left s (b ∷ bs) rest = whether (gone b) (λ e. rw (e, left s bs rest)) (λ e. rw (e, left s bs rest))

  one :
      (bs : List State) (x : State) (rest : List Bool) →
      cond (gone x) (stood bs) (add_of (stood bs) x (left_of gone hit x bs (map (joins x) bs ++ rest))) ≡ stood (bs ++ (x ∷ []))
  unfolding keep_of
  one bs x rest =
      whether (gone x)
      (λ e. rw (keep_append stays bs (x ∷ []), e, append-nil (keep_of stays bs)))
      (λ e. rw (keep_append stays bs (x ∷ []), e, left x bs rest) (add joined (keep_of stays bs) x))

  from : (bs xs : List State) → leaves_of gone hit (stood bs) bs (rows_of joins bs xs) ≡ stood (bs ++ xs)
  unfolding leaves_of rows_of
  from bs [] = rw (append-nil bs)
  from bs (x ∷ xs) =
      let e : bs ++ (x ∷ []) ++ xs ≡ bs ++ (x ∷ xs) = append_assoc bs (x ∷ []) xs in
      ap (λ (ms : List Milestone). leaves_of gone hit ms (bs ++ (x ∷ [])) (rows_of joins (bs ++ (x ∷ [])) xs)) (one bs x (false ∷ map (λ (t : State). joins t x) xs))
      ∙ from (bs ++ (x ∷ [])) xs
      ∙ ap stood e

  pub leaves_closed : (xs : List State) → leaves_of gone hit [] [] (roadmap_of joins xs) ≡ roadmap_of joined (keep_of stays xs)
  unfolding roadmap_of rows_of keep_of
  leaves_closed xs = from [] xs
