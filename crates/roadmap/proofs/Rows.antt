-- The closed form with one milestone more.
use Prim.Native.Nat.{suc}
use mathlib.Core.Bool.{Bool, false}
use mathlib.Core.List.{List, [], ◌∷◌, ◌++◌, map, append-nil, append_assoc}
use mathlib.Core.Path.{◌≡◌, refl, sym, ◌∙◌, ap}
use lib.ListN.{length}
use Rattle.state.specs.declared.State.{State}
use Rattle.roadmap.specs.Map.{mark_of, add_of, flags_of}
use Rattle.roadmap.specs.Closed.{rows_of, roadmap_of}

pub map_snoc : {A B : Type 0} (f : A → B) (xs : List A) (y : A) → map f (xs ++ (y ∷ [])) ≡ map f xs ++ (f y ∷ [])
map_snoc f [] y = refl
map_snoc f (x ∷ xs) y = ap (λ l. f x ∷ l) (map_snoc f xs y)

module _ (joins : State → State → Bool) where
  -- a row gets its mark for a new milestone at its end
  mark_row :
      (bs : List State) (x : State) (xs : List State) (s : State) →
      map (joins x) bs ++ (false ∷ map (λ (t : State). joins t x) xs) ++ (joins s x ∷ []) ≡ map (joins x) bs ++ (false ∷ map (λ (t : State). joins t x) (xs ++ (s ∷ [])))
  mark_row bs x xs s =
      append_assoc (map (joins x) bs) (false ∷ map (λ (t : State). joins t x) xs) (joins s x ∷ [])
      ∙ ap (λ (l : List Bool). map (joins x) bs ++ (false ∷ l)) (sym (map_snoc (λ (t : State). joins t x) xs s))

  grown :
      (bs xs : List State) (s : State) →
      mark_of (rows_of joins bs xs) (map (joins s) xs) ++ (record { at = s; legs = map (joins s) (bs ++ xs) ++ (false ∷ []) } ∷ []) ≡ rows_of joins bs (xs ++ (s ∷ []))
  unfolding mark_of rows_of
  grown bs [] s = rw (append-nil bs)
  grown bs (x ∷ xs) s =
      let e : bs ++ (x ∷ []) ++ xs ≡ bs ++ (x ∷ xs) = append_assoc bs (x ∷ []) xs in
      rw (← mark_row bs x xs s, ← grown (bs ++ (x ∷ [])) xs s, e)

  flags : (bs xs : List State) (s : State) → flags_of joins (rows_of joins bs xs) s ≡ map (joins s) xs
  unfolding flags_of rows_of
  flags bs [] s = refl
  flags bs (x ∷ xs) s = ap (λ (l : List Bool). joins s x ∷ l) (flags (bs ++ (x ∷ [])) xs s)

  -- one milestone more, its flags given by the test
  pub add : (xs : List State) (s : State) → add_of (roadmap_of joins xs) s (map (joins s) xs) ≡ roadmap_of joins (xs ++ (s ∷ []))
  unfolding add_of roadmap_of
  add xs s = grown [] xs s

  pub add_flags : (xs : List State) (s : State) → add_of (roadmap_of joins xs) s (flags_of joins (roadmap_of joins xs) s) ≡ roadmap_of joins (xs ++ (s ∷ []))
  unfolding roadmap_of
  add_flags xs s = ap (add_of (roadmap_of joins xs) s) (flags [] xs s) ∙ add xs s

  rows_long : (bs xs : List State) → length (rows_of joins bs xs) ≡ length xs
  unfolding rows_of
  rows_long bs [] = refl
  rows_long bs (x ∷ xs) = ap suc (rows_long (bs ++ (x ∷ [])) xs)

  pub roadmap_long : (xs : List State) → length (roadmap_of joins xs) ≡ length xs
  unfolding roadmap_of
  roadmap_long xs = rows_long [] xs
