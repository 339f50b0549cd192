-- The roadmap with one milestone more, as the code writes it.
use Prim.Native.Nat.{ℕ, suc, ◌+◌, ◌≤◌, ◌<◌, min}
use mathlib.Core.Bool.{Bool, false, ◌&&◌, ◌||◌, or-false, and-false}
use mathlib.Core.List.{List, [], ◌∷◌, ◌++◌}
use mathlib.Core.Path.{◌≡◌, refl, sym, ◌∙◌, ap₂}
use native.Mathlib.Omega.{arith}
use native.Mathlib.Numerals.{add-one}
use borrow.Author.Tests.{eq-eqb, ne_eqb, lt-ltb, le-ltb}
use lib.Dec.{eqb}
use lib.ListN.{length, set, length-set}
use lib.Seq.{get_or-set_same, get_or-set_other}
use Rattle.state.specs.declared.State.{State}
use Rattle.legs.specs.Bits.{leg_at}
use Rattle.roadmap.specs.Map.{Milestone, add_of}
use Rattle.state.specs.Rows.{state_at}
use Rattle.roadmap.specs.View.{span_of, view_of, milestones_of, pushed_of, Clean, Joins}
use Rattle.roadmap.specs.declared.Roadmap.{Roadmap}
use Rattle.roadmap.proofs.Span.{span_snoc, span_same, span_mark}

module _ (states : List State) (old : List ℕ) (n : ℕ) (f : ℕ → Bool) (now : List ℕ) (s : State)
    (long : length states ≡ 256) (room : n < 256) (clean : Clean old n) (joins : Joins old n n f now) where
  abbrev states' : List State
  states' = set states n s

  cell : (a b : ℕ) → a < n → b < n → leg_at now a b ≡ leg_at old a b
  cell a b ha hb =
      joins.is a b (omega arith) (omega arith)
      ∙ rw (ne_eqb a n (λ e. omega arith), ne_eqb b n (λ e. omega arith)) (or-false (leg_at old a b || false) ∙ or-false (leg_at old a b))

  cell_column : (a : ℕ) → a < n → leg_at now a n ≡ f a
  cell_column a ha = joins.is a n (omega arith) room ∙ rw (clean.column a n (omega arith) room (omega arith), ne_eqb a n (λ e. omega arith), eq-eqb n n refl, lt-ltb a n ha)

  cell_row : (b : ℕ) → b < n → leg_at now n b ≡ f b
  cell_row b hb = joins.is n b room (omega arith) ∙ rw (clean.row n b room (omega arith) (omega arith), ne_eqb b n (λ e. omega arith), eq-eqb n n refl, lt-ltb b n hb) (or-false (f b))

  cell_last : leg_at now n n ≡ false
  cell_last = joins.is n n room room ∙ rw (clean.row n n room room (omega arith), eq-eqb n n refl, le-ltb n n (omega arith))

  state_same : (a : ℕ) → a < n → state_at states' a ≡ state_at states a
  state_same a ha = get_or-set_other states n a s _ (λ z. omega arith)

  state_new : state_at states' n ≡ s
  state_new = get_or-set_same states n s _ (omega arith)

  row_old : (a : ℕ) → a < n → span_of 0 (suc n) (λ (j : ℕ). leg_at now a j) ≡ span_of 0 n (λ (j : ℕ). leg_at old a j) ++ (f a ∷ [])
  row_old a ha =
      span_snoc 0 n (λ (j : ℕ). leg_at now a j)
      ∙ ap₂ (λ (l : List Bool) (x : Bool). l ++ (x ∷ []))
      (span_same 0 n (λ (j : ℕ). leg_at now a j) (λ (j : ℕ). leg_at old a j) (λ j _ h. cell a j ha (omega arith)))
      (let e : 0 + n ≡ n = omega arith in rw e (cell_column a ha))

  row_new : span_of 0 (suc n) (λ (j : ℕ). leg_at now n j) ≡ span_of 0 n f ++ (false ∷ [])
  row_new =
      span_snoc 0 n (λ (j : ℕ). leg_at now n j)
      ∙ ap₂ (λ (l : List Bool) (x : Bool). l ++ (x ∷ [])) (span_same 0 n (λ (j : ℕ). leg_at now n j) f (λ j _ h. cell_row j (omega arith)))
      (let e : 0 + n ≡ n = omega arith in rw e cell_last)

  abbrev entry : ℕ → Milestone
  entry a = record { at = state_at states' a; legs = span_of 0 (suc n) (λ (j : ℕ). leg_at now a j) }

  abbrev grown : ℕ → Milestone
  grown a = record { at = state_at states a; legs = span_of 0 n (λ (j : ℕ). leg_at old a j) ++ (f a ∷ []) }

  entry_old : (a : ℕ) → a < n → entry a ≡ grown a
  entry_old a ha = rw (state_same a ha, row_old a ha)

  entry_new : entry (0 + n) ≡ record { at = s; legs = span_of 0 n f ++ (false ∷ []) }
  entry_new = let e : 0 + n ≡ n = omega arith in rw (e, state_new, row_new)

  pub view_add : view_of states' now (n + 1) ≡ add_of (view_of states old n) s (span_of 0 n f)
  unfolding view_of add_of
  view_add =
      rw (add-one n)
      (span_snoc 0 n entry
      ∙ ap₂ (λ (l : List Milestone) (x : Milestone). l ++ (x ∷ []))
      (span_same 0 n entry grown (λ j _ h. entry_old j (omega arith))
      ∙ sym (span_mark 0 n (state_at states) (λ (i : ℕ). span_of 0 n (λ (j : ℕ). leg_at old i j)) f)) entry_new)

  pub clean_add : Clean now (n + 1)
  clean_add =
      record {
        row = λ a b ha hb h. joins.is a b ha hb ∙ rw (clean.row a b ha hb (omega arith), ne_eqb a n (λ e. omega arith), le-ltb a n (omega arith)) (and-false (eqb b n));
        column =
            λ a b ha hb h. joins.is a b ha hb
            ∙ rw (clean.column a b ha hb (omega arith), ne_eqb b n (λ e. omega arith), le-ltb b n (omega arith)) (or-false (eqb a n && false) ∙ and-false (eqb a n));
      }

-- a table with a place left: a milestone more, whose legs were joined first
module _ (m : Roadmap) (f : ℕ → Bool) (now : List ℕ) (s : State) (room : m.count < 256) (sized : length m.milestones ≡ 256) (empty : Clean m.legs m.count) (new : Joins m.legs m.count m.count f now) where
  abbrev after : Roadmap
  after = pushed_of (record { milestones = m.milestones; legs = now; count = m.count }) s

  pub push_add : milestones_of after ≡ add_of (milestones_of m) s (span_of 0 m.count f)
  unfolding milestones_of pushed_of
  push_add =
      let here : min m.count 256 ≡ m.count = omega arith in
      let there : min (m.count + 1) 256 ≡ m.count + 1 = omega arith in
      rw (here, there) (view_add m.milestones m.legs m.count f now s sized room empty new)

  pub push_clean : Clean after.legs after.count
  unfolding pushed_of
  push_clean = clean_add m.milestones m.legs m.count f now s sized room empty new

  pub push_sized : length after.milestones ≡ 256
  unfolding pushed_of
  push_sized = length-set m.milestones m.count s ∙ sized

  pub push_room : after.count ≤ 256
  unfolding pushed_of
  push_room = omega arith
