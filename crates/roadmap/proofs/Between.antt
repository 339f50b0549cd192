-- The closed form by numbers: its milestones are the states in order (`milestones_are`), and a leg stands between i and an earlier j
-- exactly if the test from i to j holds (`leg_is`); it is the same leg seen from j (`leg_back`), and none joins a milestone to itself.
use Prim.Native.Nat.{ℕ, zero, suc, ◌+◌, ◌-◌, ◌<◌}
use mathlib.Core.Bool.{Bool, false}
use mathlib.Core.List.{List, [], ◌∷◌, ◌++◌, map, append-nil, append_assoc}
use mathlib.Core.Path.{◌≡◌, refl, sym, ◌∙◌, ap}
use native.Mathlib.Omega.{arith}
use lib.ListN.{length, get_or, take, drop, length-map, length-drop, get_or-append, get_or-map}
use lib.Seq.{get_or-take, get_or-drop, get_or-append-add, get_or_at, length-take-le}
use Rattle.laws.specs.Rest.{within}
use Rattle.state.specs.declared.State.{State}
use Rattle.roadmap.specs.Map.{Milestone, milestone_at, leg_of}
use Rattle.roadmap.specs.Closed.{rows_of, roadmap_of}

none : (i : ℕ) → i < 0 → ⊥
none i h = omega arith

-- a flag of a list of flags, whatever stands past the end of either list
flag_at : (f : State → Bool) (xs : List State) (k : ℕ) (d : State) → k < length xs → get_or (map f xs) k false ≡ f (get_or xs k d)
flag_at f xs k d h =
    let l : k < length (map f xs) = omega (arith, length-map xs f) in
    within (map f xs) k false (f d) l ∙ get_or-map f xs k d

module _ (joins : State → State → Bool) (d : State) where
  -- the row of the i-th of xs, after those of bs
  abbrev row_at : List State → List State → ℕ → Milestone
  row_at bs xs i =
      let s = get_or xs i d in
      record { at = s; legs = map (joins s) (bs ++ take i xs) ++ (false ∷ map (λ (t : State). joins t s) (drop (suc i) xs)) }

  rows_at : (bs xs : List State) (i : ℕ) (m : Milestone) → i < length xs → get_or (rows_of joins bs xs) i m ≡ row_at bs xs i
  unfolding rows_of
  rows_at bs [] i m h = absurd (none i h)
  rows_at bs (x ∷ xs) zero m h = rw (append-nil bs)
  rows_at bs (x ∷ xs) (suc i) m h =
      let e : bs ++ (x ∷ []) ++ take i xs ≡ bs ++ (x ∷ take i xs) = append_assoc bs (x ∷ []) (take i xs) in
      let l : i < length xs = omega arith in
      rw (← e) (rows_at (bs ++ (x ∷ [])) xs i m l)

  pub row_is : (xs : List State) (i : ℕ) → i < length xs → milestone_at (roadmap_of joins xs) i ≡ row_at [] xs i
  unfolding milestone_at roadmap_of
  row_is xs i h = rows_at [] xs i _ h

  module _ (xs : List State) (i : ℕ) (inside : i < length xs) where
    abbrev s : State
    s = get_or xs i d

    abbrev before : List Bool
    before = map (joins s) (take i xs)

    abbrev after : List Bool
    after = map (λ (t : State). joins t s) (drop (suc i) xs)

    leg_row : (j : ℕ) → leg_of (roadmap_of joins xs) i j ≡ get_or (before ++ (false ∷ after)) j false
    unfolding leg_of
    leg_row j = ap (λ (m : Milestone). get_or m.legs j false) (row_is xs i inside)

    long : length before ≡ i
    long = length-map (take i xs) (joins s) ∙ length-take-le i xs (omega arith)

    -- to an earlier one
    pub leg_is : (j : ℕ) → j < i → leg_of (roadmap_of joins xs) i j ≡ joins (get_or xs i d) (get_or xs j d)
    leg_is j h =
        let n = length-take-le i xs (omega arith) in
        leg_row j ∙ get_or-append before (false ∷ after) false j (omega (arith, long)) ∙ flag_at (joins s) (take i xs) j d (omega arith)
        ∙ ap (joins s) (get_or-take i xs j d h)

    -- to itself
    pub leg_self : leg_of (roadmap_of joins xs) i i ≡ false
    leg_self = leg_row i ∙ get_or_at before false after false i long

    -- to a later one
    pub leg_back : (j : ℕ) → i < j → j < length xs → leg_of (roadmap_of joins xs) i j ≡ joins (get_or xs j d) (get_or xs i d)
    leg_back j h l =
        let e : j ≡ i + suc (j - suc i) = omega arith in
        let k : suc i + (j - suc i) ≡ j = omega arith in
        let more : j - suc i < length (drop (suc i) xs) = omega (arith, length-drop (suc i) xs) in
        leg_row j ∙ ap (λ (x : ℕ). get_or (before ++ (false ∷ after)) x false) (e ∙ ap (λ (x : ℕ). x + suc (j - suc i)) (sym long))
        ∙ get_or-append-add before (false ∷ after) (suc (j - suc i)) false ∙ flag_at (λ (t : State). joins t s) (drop (suc i) xs) (j - suc i) d more
        ∙ ap (λ (t : State). joins t s) (get_or-drop (suc i) xs (j - suc i) d ∙ ap (λ (x : ℕ). get_or xs x d) k)

  rows_states : (bs xs : List State) → map (λ (m : Milestone). m.at) (rows_of joins bs xs) ≡ xs
  unfolding rows_of
  rows_states bs [] = refl
  rows_states bs (x ∷ xs) = ap (λ (l : List State). x ∷ l) (rows_states (bs ++ (x ∷ [])) xs)

  -- the milestones are the states, in order
  pub milestones_are : (xs : List State) → map (λ (m : Milestone). m.at) (roadmap_of joins xs) ≡ xs
  unfolding roadmap_of
  milestones_are xs = rows_states [] xs
