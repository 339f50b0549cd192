-- What a keep-out takes away, and nothing else. A milestone goes only if the keep-out covers it (`milestone_goes_only_if_covered`): so in
-- any roadmap. A leg goes only if an end goes, or the keep-out covers one of the checked points of the motion from the newer to the older
-- (`leg_goes_only_if`): so in a roadmap in closed form, under any test for a leg. Every construction gives a closed form, and every
-- keep-out leaves one (the theorems `closed` and `leaves_closed`).
use Prim.Native.Nat.{ℕ, ◌<◌}
use mathlib.Core.Bool.{Bool, true, false, not, ◌&&◌}
use mathlib.Core.List.{List, [], ◌∷◌, ◌++◌, map, append-nil, append_assoc}
use mathlib.Core.Logic.{◌⊎◌, inl, inr}
use mathlib.Core.Path.{◌≡◌, refl, sym, ◌∙◌, ap, ap₂}
use native.Mathlib.Omega.{arith}
use lib.ListN.{length, get_or, take, length-map}
use lib.Ieee.{Float}
use Rattle.laws.specs.Order.{whether}
use Rattle.state.specs.declared.State.{State}
use Rattle.keep_out.specs.Covers.{covers_of}
use Rattle.keep_out.specs.declared.KeepOut.{KeepOut}
use Rattle.motion.specs.Points.{checked_of}
use Rattle.roadmap.specs.Keep.{keep_of}
use Rattle.roadmap.specs.Map.{Milestone, mark_of, add_of, leg_of}
use Rattle.roadmap.specs.Closed.{roadmap_of}
use Rattle.roadmap.proofs.Rows.{map_snoc}
use Rattle.roadmap.proofs.Between.{leg_is}
use Rattle.prune.specs.Hit.{hit_of, CoversPoint}
use Rattle.prune.specs.Prune.{left_of, leaves_of, pruned_of, place_of}
use Rattle.prune.proofs.Keep.{kept_at, kept_within, kept_before}
use Rattle.prune.proofs.Points.{hit_point}
use Rattle.prune.proofs.Afresh.{joined, leaves_closed}

-- a milestone's states, in order
abbrev pub states_of : List Milestone → List State
states_of ms = map (λ (m : Milestone). m.at) ms

mark_states : (ms : List Milestone) (fs : List Bool) → states_of (mark_of ms fs) ≡ states_of ms
unfolding mark_of
mark_states [] fs = refl
mark_states (m ∷ ms) [] = ap (λ (l : List State). m.at ∷ l) (mark_states ms [])
mark_states (m ∷ ms) (f ∷ fs) = ap (λ (l : List State). m.at ∷ l) (mark_states ms fs)

add_states : (ms : List Milestone) (s : State) (fs : List Bool) → states_of (add_of ms s fs) ≡ states_of ms ++ (s ∷ [])
unfolding add_of
add_states ms s fs =
    map_snoc (λ (m : Milestone). m.at) (mark_of ms fs) (record { at = s; legs = fs ++ (false ∷ []) })
    ∙ ap (λ (l : List State). l ++ (s ∷ [])) (mark_states ms fs)

module _ (segment : Float) (k : KeepOut) where
  abbrev stays : State → Bool
  stays s = not (covers_of k s)

  left_states : (kept : List Milestone) (before : List State) (ms : List Milestone) → states_of (leaves_of (covers_of k) (hit_of segment k) kept before ms) ≡ states_of kept ++ keep_of stays (states_of ms)
  unfolding leaves_of keep_of
  left_states kept before [] = sym (append-nil (states_of kept))
  left_states kept before (m ∷ ms) =
      let fs = left_of (covers_of k) (hit_of segment k) m.at before m.legs in
      whether (covers_of k m.at)
      (λ e. rw e (left_states kept (before ++ (m.at ∷ [])) ms))
      (λ e.
      rw e
      (left_states (add_of kept m.at fs) (before ++ (m.at ∷ [])) ms ∙ ap (λ (l : List State). l ++ keep_of stays (states_of ms)) (add_states kept m.at fs)
      ∙ append_assoc (states_of kept) (m.at ∷ []) (keep_of stays (states_of ms))))

  -- the milestones that stay are those that k does not cover, with their bits and in their order
  pub milestones_left : (ms : List Milestone) → states_of (pruned_of segment k ms) ≡ keep_of (λ (s : State). not (covers_of k s)) (states_of ms)
  unfolding pruned_of
  milestones_left ms = left_states [] [] ms

  module _ (d : State) where
    stay : (s : State) → covers_of k s ≡ false → stays s ≡ true
    stay s e = rw e

    module _ (ms : List Milestone) (i : ℕ) (inside : i < length ms) where
      long : i < length (states_of ms)
      long = omega (arith, length-map ms (λ (m : Milestone). m.at))

      -- the milestone i has its place among those that stay, and is there as it was
      abbrev pub Stays : Type 0
      Stays =
          (place_of k (states_of ms) i < length (pruned_of segment k ms))
          × (get_or (states_of (pruned_of segment k ms)) (place_of k (states_of ms) i) d ≡ get_or (states_of ms) i d)

      uncovered_stays : covers_of k (get_or (states_of ms) i d) ≡ false → Stays
      unfolding place_of
      uncovered_stays e =
          let w = kept_within stays d (states_of ms) i long (stay _ e) in
          let l = length-map (pruned_of segment k ms) (λ (m : Milestone). m.at) in
          let n = ap length (milestones_left ms) in
          (omega (arith, w, l, n), rw (milestones_left ms) (kept_at stays d (states_of ms) i long (stay _ e)))

      pub milestone_goes_only_if_covered : (Stays → ⊥) → covers_of k (get_or (states_of ms) i d) ≡ true
      milestone_goes_only_if_covered goes = whether (covers_of k (get_or (states_of ms) i d)) (λ e. e) (λ e. absurd (goes (uncovered_stays e)))

    module _ (joins : State → State → Bool) (xs : List State) (i j : ℕ) (earlier : j < i) (inside : i < length xs) where
      abbrev new : State
      new = get_or xs i d

      abbrev old : State
      old = get_or xs j d

      -- between two that stay: a leg stands exactly if it stood and is not hit
      pub leg_left :
          covers_of k (get_or xs i d) ≡ false → covers_of k (get_or xs j d) ≡ false →
          leg_of (pruned_of segment k (roadmap_of joins xs)) (place_of k xs i) (place_of k xs j) ≡ leg_of (roadmap_of joins xs) i j && not (hit_of segment k (get_or xs i d) (get_or xs j d))
      unfolding pruned_of place_of
      leg_left p q =
          let ys = keep_of stays xs in
          let a = length (keep_of stays (take i xs)) in
          let b = length (keep_of stays (take j xs)) in
          let test = joined joins (covers_of k) (hit_of segment k) in
          ap (λ (ms : List Milestone). leg_of ms a b) (leaves_closed joins (covers_of k) (hit_of segment k) xs)
          ∙ leg_is test d ys a (kept_within stays d xs i inside (stay _ p)) b (kept_before stays d xs j i earlier inside (stay _ q))
          ∙ ap₂ test (kept_at stays d xs i inside (stay _ p)) (kept_at stays d xs j (omega arith) (stay _ q))
          ∙ ap (λ (l : Bool). l && not (hit_of segment k new old)) (sym (leg_is joins d xs i inside j earlier))

      -- both ends stay, and the leg between them
      abbrev pub LegStays : Type 0
      LegStays =
          (covers_of k (get_or xs i d) ≡ false) × (covers_of k (get_or xs j d) ≡ false)
          × (leg_of (pruned_of segment k (roadmap_of joins xs)) (place_of k xs i) (place_of k xs j) ≡ true)

      pub leg_goes_only_if :
          leg_of (roadmap_of joins xs) i j ≡ true → (LegStays → ⊥) →
          (covers_of k (get_or xs i d) ≡ true) ⊎ ((covers_of k (get_or xs j d) ≡ true) ⊎ CoversPoint k (checked_of segment (get_or xs i d) (get_or xs j d)))
      leg_goes_only_if stood goes =
          whether (covers_of k new) inl
          (λ p.
          inr
          (whether (covers_of k old) inl
          (λ q.
          inr
          (whether (hit_of segment k new old) (λ h. hit_point k segment new old h)
          (λ h. absurd (goes (p, q, leg_left p q ∙ rw (stood, h))))))))
