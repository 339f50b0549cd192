-- The view of a table: how many milestones it has, what stands at a number, and the flags of a new milestone.
use Prim.Native.Nat.{ℕ, ◌+◌, ◌≤◌, ◌<◌, min}
use mathlib.Core.Bool.{Bool, false}
use mathlib.Core.List.{List, []}
use mathlib.Core.Path.{◌≡◌, refl, sym, ◌∙◌, ap}
use native.Mathlib.Omega.{arith}
use borrow.Author.Tests.{lt-ltb, le-ltb}
use lib.ListN.{length, get_or, take, replicate, length-take}
use lib.Seq.{get_or-take, length-take-le}
use native.Mathlib.Decide.{dec_lt}
use Rattle.std.specs.List.{slice_get}
use Rattle.std.proofs.lemmas.Option.{slice_get-get_or, slice_get_past, slice_get_read}
use Rattle.std.specs.Slice.{IsItemAt}
use Rattle.std.specs.Option.{option_copied}
use Rattle.std.specs.Prelude.{Option}
use Rattle.std.proofs.Common.{Bor}
use Rattle.state.specs.declared.State.{State}
use Rattle.legs.specs.Bits.{leg_at}
use Rattle.legs.proofs.Square.{cleared}
use Rattle.std.specs.Prelude.{Some, None}
use Rattle.roadmap.specs.Map.{Milestone, milestone_at, milestone_of, leg_of, flags_of}
use Rattle.state.specs.Rows.{state_at, nowhere}
use Rattle.roadmap.specs.View.{span_of, view_of, milestones_of, empty_of, Clean}
use Rattle.roadmap.specs.declared.Roadmap.{Roadmap}
use Rattle.roadmap.proofs.Span.{span_same, span_long, span_map, span_get, span_over}

module _ (states : List State) (legs : List ℕ) (n : ℕ) where
  abbrev entry : ℕ → Milestone
  entry i = record { at = state_at states i; legs = span_of 0 n (λ (j : ℕ). leg_at legs i j) }

  pub view_long : length (view_of states legs n) ≡ n
  unfolding view_of
  view_long = span_long 0 n entry

  pub view_flags :
      (joins : State → State → Bool) (s : State) →
      flags_of joins (view_of states legs n) s ≡ span_of 0 n (λ (j : ℕ). joins s (state_at states j))
  unfolding view_of flags_of
  view_flags joins s = span_map 0 n entry (λ (m : Milestone). joins s m.at)

  pub view_none : n ≡ 0 → view_of states legs n ≡ []
  unfolding view_of span_of
  view_none e = rw e

  -- the milestone at i
  pub view_at : (i : ℕ) → i < n → milestone_at (view_of states legs n) i ≡ entry i
  unfolding milestone_at view_of
  view_at i h = let e : 0 + i ≡ i = omega arith in span_get 0 n entry i _ h ∙ ap entry e

  pub state_at_is : (i : ℕ) → i < n → Some (state_at states i) ≡ milestone_of (view_of states legs n) i
  unfolding milestone_of
  state_at_is i h = rw (view_long, lt-ltb i n h, view_at i h)

  pub nothing_at : (i : ℕ) → n ≤ i → None ≡ milestone_of (view_of states legs n) i
  unfolding milestone_of
  nothing_at i h = rw (view_long, le-ltb i n h)

  -- the leg between i and j
  pub leg_at_is : (i j : ℕ) → i < n → j < n → leg_at legs i j ≡ leg_of (view_of states legs n) i j
  unfolding leg_of
  leg_at_is i j h l =
      let e : 0 + j ≡ j = omega arith in
      sym (ap (λ (m : Milestone). get_or m.legs j false) (view_at i h) ∙ span_get 0 n (leg_at legs i) j false l ∙ ap (leg_at legs i) e)

  pub leg_over : (i j : ℕ) → i < n → n ≤ j → false ≡ leg_of (view_of states legs n) i j
  unfolding leg_of
  leg_over i j h l = sym (ap (λ (m : Milestone). get_or m.legs j false) (view_at i h) ∙ span_over 0 n (leg_at legs i) j false l)

  pub no_legs : (i j : ℕ) → n ≤ i → false ≡ leg_of (view_of states legs n) i j
  unfolding leg_of milestone_at view_of
  no_legs i j h = sym (ap (λ (m : Milestone). get_or m.legs j false) (span_over 0 n entry i _ h))

-- what a slice gives at an index
pub copied_is : (l : List State) (i : ℕ) (r : Option (Bor State)) → IsItemAt l i r → option_copied r ≡ slice_get l i
copied_is l i None h = sym (slice_get_past l i h.3)
copied_is l i (Some x) h = sym (slice_get_read l (length l) i x.now refl h.3.0 h.1)

-- a table of 256 places with a count
module _ (m : Roadmap) (long : length m.milestones ≡ 256) where
  abbrev few : ℕ
  few = min m.count 256

  held_long : length (take m.count m.milestones) ≡ few
  held_long = length-take m.count m.milestones ∙ rw long

  pub held_many : length (take few m.milestones) ≡ length (milestones_of m)
  unfolding milestones_of
  held_many =
      let all : few ≤ length m.milestones = omega (arith, long) in
      length-take-le few m.milestones all ∙ sym (view_long m.milestones m.legs few)

  pub milestone_is : (i : ℕ) → slice_get (take m.count m.milestones) i ≡ milestone_of (milestones_of m) i
  unfolding milestones_of
  milestone_is i =
      elim (dec_lt i few) [
        | yes p ↦
            slice_get-get_or (take m.count m.milestones) i nowhere (omega (arith, held_long)) ∙ ap Some (get_or-take m.count m.milestones i nowhere (omega arith))
            ∙ state_at_is m.milestones m.legs few i p
        | no p ↦ slice_get_past (take m.count m.milestones) i (omega (arith, held_long)) ∙ nothing_at m.milestones m.legs few i (omega arith)
      ]

  module _ (n : ℕ) (size : n ≡ length (milestones_of m)) where
    pub size_few : n ≡ few
    unfolding milestones_of
    size_few = size ∙ view_long m.milestones m.legs few

    pub leg_is : (i j : ℕ) → i < n → j < n → leg_at m.legs i j ≡ leg_of (milestones_of m) i j
    unfolding milestones_of
    leg_is i j p q = leg_at_is m.milestones m.legs few i j (omega (arith, size_few)) (omega (arith, size_few))

    pub leg_past : (i j : ℕ) → i < n → n ≤ j → false ≡ leg_of (milestones_of m) i j
    unfolding milestones_of
    leg_past i j p q = leg_over m.milestones m.legs few i j (omega (arith, size_few)) (omega (arith, size_few))

    pub leg_none : (i j : ℕ) → n ≤ i → false ≡ leg_of (milestones_of m) i j
    unfolding milestones_of
    leg_none i j p = no_legs m.milestones m.legs few i j (omega (arith, size_few))

-- the flags of a new milestone: those of the states of the table's first places
pub flags_held :
    (joins : State → State → Bool) (m : Roadmap) (s : State) → m.count ≤ 256 →
    flags_of joins (milestones_of m) s ≡ span_of 0 m.count (λ (j : ℕ). joins s (state_at (take m.count m.milestones) j))
unfolding milestones_of
flags_held joins m s h =
    let few : min m.count 256 ≡ m.count = omega arith in
    rw few
    (view_flags m.milestones m.legs m.count joins s
    ∙ span_same 0 m.count (λ (j : ℕ). joins s (state_at m.milestones j)) (λ (j : ℕ). joins s (state_at (take m.count m.milestones) j))
    (λ j _ l. ap (joins s) (sym (get_or-take m.count m.milestones j nowhere (omega arith)))))

pub milestones_long : (m : Roadmap) → m.count ≤ 256 → length (milestones_of m) ≡ m.count
unfolding milestones_of
milestones_long m h = view_long m.milestones m.legs (min m.count 256) ∙ omega arith

-- a cleared square has no leg
pub clean : (k n : ℕ) → Clean (replicate k 0) n
clean k n = record { row = λ a b ha hb h. cleared k a b; column = λ a b ha hb h. cleared k a b }

-- the table without a milestone
pub empty_is : milestones_of empty_of ≡ []
unfolding milestones_of empty_of
empty_is = view_none _ _ 0 refl

pub empty_clean : Clean empty_of.legs empty_of.count
unfolding empty_of
empty_clean = clean 1024 0

pub empty_sized : length empty_of.milestones ≡ 256
unfolding empty_of
empty_sized = refl

pub empty_room : empty_of.count ≤ 256
unfolding empty_of
empty_room = omega arith
