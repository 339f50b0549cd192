-- The roadmap that a search reads: its states stand in the first places of a table, and its legs in the rows of a square.
use Prim.Native.Nat.{ℕ, zero, suc, ◌+◌, ◌≤◌, ◌<◌, min}
use mathlib.Core.Bool.{Bool}
use mathlib.Core.List.{List, [], ◌∷◌, map}
use mathlib.Core.Path.{◌≡◌, refl, sym, ◌∙◌, ap}
use native.Mathlib.Omega.{arith}
use native.Mathlib.Numerals.{add-one}
use lib.ListN.{length, take, drop, length-take}
use lib.Seq.{drop-cons}
use Rattle.std.proofs.lemmas.List.{get_or-map, length-map}
use Rattle.state.specs.declared.State.{State}
use Rattle.state.specs.Rows.{nowhere, state_at}
use Rattle.legs.specs.Bits.{leg_at}
use Rattle.roadmap.specs.Map.{Milestone, milestone_at, flags_of}
use Rattle.roadmap.specs.View.{span_of, view_of, milestones_of}
use Rattle.roadmap.specs.declared.Roadmap.{Roadmap}
use Rattle.roadmap.proofs.Span.{span_map}
use Rattle.roadmap.proofs.View.{view_long, view_at}
use Rattle.search.specs.Query.{states_of}

-- a table read from i on
table_span : (l : List State) (n i : ℕ) → i + n ≤ length l → span_of i n (state_at l) ≡ take n (drop i l)
unfolding span_of
table_span l zero i h = refl
table_span l (suc n) i h =
    let low : i < length l = omega arith in
    rw (drop-cons l i nowhere) (ap (λ (xs : List State). state_at l i ∷ xs) (table_span l n (i + 1) (omega arith) ∙ rw (add-one i)))

-- the state that stands at a number
pub at_is : (ms : List Milestone) (i : ℕ) → i < length ms → (milestone_at ms i).at ≡ state_at (states_of ms) i
unfolding milestone_at
at_is ms i h = sym (get_or-map (λ (m : Milestone). m.at) ms i _ nowhere h)

pub flags_are : (joins : State → State → Bool) (ms : List Milestone) (s : State) → flags_of joins ms s ≡ map (joins s) (states_of ms)
unfolding flags_of
flags_are joins [] s = refl
flags_are joins (m ∷ ms) s = ap (λ (l : List Bool). joins s m.at ∷ l) (flags_are joins ms s)

module _ (m : Roadmap) where
  abbrev few : ℕ
  few = min m.count 256

  abbrev entry : ℕ → Milestone
  entry i = record { at = state_at m.milestones i; legs = span_of 0 few (leg_at m.legs i) }

  many : length (milestones_of m) ≡ few
  unfolding milestones_of
  many = view_long m.milestones m.legs few

  pub states_long : length (states_of (milestones_of m)) ≡ length (milestones_of m)
  states_long = length-map (milestones_of m) (λ (x : Milestone). x.at)

  pub states_few : length (milestones_of m) ≤ 256
  states_few = omega (arith, many)

  pub states_are : (n : ℕ) → n ≡ length (milestones_of m) → length (take n m.milestones) ≡ n → take n m.milestones ≡ states_of (milestones_of m)
  unfolding milestones_of view_of
  states_are n e whole =
      sym
      (ap (λ (k : ℕ). states_of (span_of 0 k entry)) (sym (e ∙ many))
      ∙ span_map 0 n entry (λ (x : Milestone). x.at)
      ∙ table_span m.milestones n 0 (omega (arith, length-take n m.milestones)))

  pub legs_are : (i : ℕ) → i < length (milestones_of m) → (milestone_at (milestones_of m) i).legs ≡ span_of 0 (length (milestones_of m)) (leg_at m.legs i)
  unfolding milestones_of
  legs_are i h = rw many (ap (λ (x : Milestone). x.legs) (view_at m.milestones m.legs few i (omega (arith, many))))
