-- The closed form. Construction gives the valid samples in order, and between each of them and an earlier one a leg exactly if the test
-- from the newer to the earlier holds: a roadmap is a function of its milestones and the keep-outs alone. So it is with at most 256 valid
-- samples (`closed`); with more, construction is answered with 4 and the roadmap is empty (`full`).
use Prim.Native.Nat.{ℕ, suc, ◌+◌, ◌≤◌, ◌<◌}
use mathlib.Core.Bool.{Bool, true, false}
use mathlib.Core.List.{List, [], ◌∷◌, ◌++◌, append-nil, append_assoc}
use mathlib.Core.Path.{◌≡◌, sym, ◌∙◌, ap}
use native.Mathlib.Omega.{arith}
use native.Mathlib.Decide.{dec_le}
use borrow.Author.Tests.{lt-ltb, le-ltb}
use lib.ListN.{length, length-append}
use lib.Ieee.{Float}
use Rattle.laws.specs.Order.{whether}
use Rattle.answer.specs.declared.Answer.{Answer}
use Rattle.answer.specs.declared.Answer.TheVariants.{Done, Full}
use Rattle.state.specs.declared.State.{State}
use Rattle.fields.specs.declared.Limits.{Limits}
use Rattle.keep_out.specs.declared.KeepOut.{KeepOut}
use Rattle.motion.specs.Valid.{valid_of}
use Rattle.roadmap.specs.Keep.{keep_of}
use Rattle.roadmap.specs.Closed.{rows_of, roadmap_of}
use Rattle.construct.specs.Construct.{Constructed, joined_of, run_of, construct_of}
use Rattle.roadmap.proofs.Rows.{add_flags, roadmap_long}

module _ (limits : Limits) (segment : Float) (ks : List KeepOut) (radius : Float) where
  abbrev joins : State → State → Bool
  joins = joined_of limits segment ks radius

  abbrev pub valids : List State → List State
  valids ss = keep_of (valid_of limits ks) ss

  abbrev run : List State → ℕ → List State → Constructed
  run xs taken ss = run_of limits segment ks radius (roadmap_of joins xs) taken ss

  -- the closed form of a run over so many samples
  abbrev pub made : List State → ℕ → Constructed
  made xs taken = record { map = roadmap_of joins xs; answer = Done; taken = taken }

  -- the run's cases, from the closed form of the milestones so far
  passed : (xs : List State) (taken : ℕ) (s : State) (ss : List State) → valid_of limits ks s ≡ false → run xs taken (s ∷ ss) ≡ run xs (taken + 1) ss
  unfolding run_of
  passed xs taken s ss e = rw e

  added :
      (xs : List State) (taken : ℕ) (s : State) (ss : List State) → valid_of limits ks s ≡ true → length xs < 256 →
      run xs taken (s ∷ ss) ≡ run (xs ++ (s ∷ [])) (taken + 1) ss
  unfolding run_of
  added xs taken s ss e h = rw (e, roadmap_long joins xs, lt-ltb (length xs) 256 h, add_flags joins xs s)

  over :
      (xs : List State) (taken : ℕ) (s : State) (ss : List State) → valid_of limits ks s ≡ true → 256 ≤ length xs →
      run xs taken (s ∷ ss) ≡ record { map = []; answer = Full; taken = taken + 1 }
  unfolding run_of
  over xs taken s ss e h = rw (e, roadmap_long joins xs, le-ltb (length xs) 256 h)

  valids_yes : (s : State) (ss : List State) → valid_of limits ks s ≡ true → valids (s ∷ ss) ≡ s ∷ valids ss
  unfolding keep_of
  valids_yes s ss e = rw e

  valids_not : (s : State) (ss : List State) → valid_of limits ks s ≡ false → valids (s ∷ ss) ≡ valids ss
  unfolding keep_of
  valids_not s ss e = rw e

  snoc_long : (xs : List State) (s : State) → length (xs ++ (s ∷ [])) ≡ length xs + 1
  snoc_long xs s = length-append xs (s ∷ [])

  closed_from : (xs ss : List State) (taken : ℕ) → length xs + length (valids ss) ≤ 256 → run xs taken ss ≡ made (xs ++ valids ss) (taken + length ss)
  unfolding run_of keep_of
  closed_from xs [] taken h =
      let e : taken + 0 ≡ taken = omega arith in
      rw (append-nil xs, e)
  closed_from xs (s ∷ ss) taken h =
      let e : taken + 1 + length ss ≡ taken + suc (length ss) = omega arith in
      whether (valid_of limits ks s)
      (λ v.
      let w = valids_yes s ss v in
      let l = ap length w in
      let n = snoc_long xs s in
      added xs taken s ss v (omega arith) ∙ closed_from (xs ++ (s ∷ [])) ss (taken + 1) (omega arith)
      ∙ ap (λ (l : List State). made l (taken + 1 + length ss)) (append_assoc xs (s ∷ []) (valids ss) ∙ ap (λ (l : List State). xs ++ l) (sym w))
      ∙ ap (made (xs ++ valids (s ∷ ss))) e)
      (λ v.
      let w = valids_not s ss v in
      let l = ap length w in
      passed xs taken s ss v ∙ closed_from xs ss (taken + 1) (omega arith) ∙ ap (λ (l : List State). made (xs ++ l) (taken + 1 + length ss)) (sym w)
      ∙ ap (made (xs ++ valids (s ∷ ss))) e)

  abbrev Emptied : Constructed → Type 0
  Emptied r = (r.answer ≡ Full) × (r.map ≡ [])

  full_from : (xs ss : List State) (taken : ℕ) → length xs ≤ 256 → 256 < length xs + length (valids ss) → Emptied (run xs taken ss)
  unfolding keep_of
  full_from xs [] taken h k = absurd (none h k)
    where
      none : length xs ≤ 256 → 256 < length xs + 0 → ⊥
      none h k = omega arith
  full_from xs (s ∷ ss) taken h k =
      whether (valid_of limits ks s)
      (λ v.
      let w = valids_yes s ss v in
      let l = ap length w in
      let n = snoc_long xs s in
      elim (dec_le 256 (length xs)) [
        | yes m ↦ (let o = over xs taken s ss v m in (ap (λ (r : Constructed). r.answer) o, ap (λ (r : Constructed). r.map) o))
        | no m ↦ rw (added xs taken s ss v (omega arith)) (full_from (xs ++ (s ∷ [])) ss (taken + 1) (omega arith) (omega arith))
      ])
      (λ v.
      let w = valids_not s ss v in
      let l = ap length w in
      rw (passed xs taken s ss v) (full_from xs ss (taken + 1) h (omega arith)))

  -- construction on an empty roadmap, in closed form
  pub closed : (samples : List State) → length (valids samples) ≤ 256 → construct_of limits segment ks radius [] samples ≡ made (valids samples) (length samples)
  unfolding construct_of roadmap_of rows_of
  closed samples h =
      let e : 0 + length samples ≡ length samples = omega arith in
      closed_from [] samples 0 (omega arith) ∙ ap (made (valids samples)) e

  pub full : (samples : List State) → 256 < length (valids samples) → Emptied (construct_of limits segment ks radius [] samples)
  unfolding construct_of roadmap_of rows_of
  full samples h = full_from [] samples 0 (omega arith) (omega arith)

  clash : {X : Type 0} (o : Answer) → o ≡ Full → o ≡ Done → X
  clash o p q = absurd (never o p q)
    where
      never : (o : Answer) → o ≡ Full → o ≡ Done → ⊥
      never o p q = let z : ◌≡◌ {A = ℕ} 0 1 = cc in omega arith

  -- a construction that is done had room
  pub done_fits : (samples : List State) → (construct_of limits segment ks radius [] samples).answer ≡ Done → length (valids samples) ≤ 256
  done_fits samples e =
      elim (dec_le (length (valids samples)) 256) [
        | yes h ↦ h
        | no h ↦ clash (construct_of limits segment ks radius [] samples).answer (full samples (omega arith)).0 e
      ]
