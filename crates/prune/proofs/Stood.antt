-- The walk over the legs that stood: what one turn adds to the legs of a milestone that stays.
use Prim.Native.Nat.{ℕ, ◌+◌, ◌<◌, ◌≤◌}
use mathlib.Core.Bool.{Bool, true, false, not, ◌&&◌, ◌||◌, or-false, and-false, and_comm, and-or_distrib_left}
use mathlib.Core.List.{List}
use mathlib.Core.Path.{◌≡◌, sym, ◌∙◌, ap}
use native.Mathlib.Omega.{arith}
use native.Mathlib.Decide.{ℕ_discrete, dec_lt}
use borrow.Author.Tests.{eq-eqb, ne_eqb, lt-ltb, le-ltb}
use lib.Dec.{eqb, ltb}
use lib.ListN.{length, get_or}
use Rattle.std.specs.Prelude.{Option, Some, None}
use Rattle.legs.specs.Bits.{leg_at, Linked}
use Rattle.legs.specs.Next.{Clear, First}
use Rattle.roadmap.specs.View.{Joins}
use Rattle.roadmap.proofs.Joins.{regroup}
use Rattle.roadmap.specs.declared.Roadmap.{Roadmap}
use Rattle.state.specs.Rows.{state_at}
use Rattle.keep_out.specs.declared.KeepOut.{KeepOut}
use lib.Ieee.{Float}
use Rattle.prune.specs.Hit.{hit_of}
use Rattle.prune.specs.Numbers.{stayed_of, Numbers}

module _ (old : List ℕ) (n : ℕ) (g : ℕ → Bool) where
  -- other flags that are the same below n
  same_below : (g' : ℕ → Bool) → ((j : ℕ) → j < n → g' j ≡ g j) → (b : ℕ) → ltb b n && g' b ≡ ltb b n && g b
  same_below g' e b = elim (dec_lt b n) [ yes h ↦ rw (e b h) | no h ↦ rw (le-ltb b n (omega arith)) ]

  pub joins_same : (g' : ℕ → Bool) (now : List ℕ) → Joins old n n g now → ((j : ℕ) → j < n → g' j ≡ g j) → Joins old n n g' now
  joins_same g' now p e = record { long = p.long; is = λ a b ha hb. p.is a b ha hb ∙ rw (same_below g' e b, same_below g' e a) }

  -- one flag more
  more_below : (g' : ℕ → Bool) (x : ℕ) → x < n → ((j : ℕ) → j < n → g' j ≡ g j || eqb j x) → (b : ℕ) → ltb b n && g' b ≡ (ltb b n && g b) || eqb b x
  more_below g' x l e b = elim (dec_lt b n) [ yes h ↦ rw (lt-ltb b n h, e b h) | no h ↦ rw (le-ltb b n (omega arith), ne_eqb b x (λ z. omega arith)) ]

  pub joins_more : (g' : ℕ → Bool) (x : ℕ) (now now' : List ℕ) → Joins old n n g now → Linked now n x now' → x < n → ((j : ℕ) → j < n → g' j ≡ g j || eqb j x) → Joins old n n g' now'
  joins_more g' x now now' p q l e =
      record {
        long = q.long ∙ p.long;
        is = λ a b ha hb. q.is a b ha hb ∙ ap (λ (z : Bool). z || (eqb a n && eqb b x) || (eqb a x && eqb b n)) (p.is a b ha hb)
            ∙ ap (λ (z : Bool). leg_at old a b || (eqb a n && (ltb b n && g b)) || (eqb b n && (ltb a n && g a)) || (eqb a n && eqb b x) || z) (and_comm (eqb a x) (eqb b n))
            ∙ regroup (leg_at old a b) (eqb a n && (ltb b n && g b)) (eqb b n && (ltb a n && g a)) (eqb a n && eqb b x) (eqb b n && eqb a x)
            ∙ sym (rw (more_below g' x l e b, more_below g' x l e a, and-or_distrib_left (eqb a n) (ltb b n && g b) (eqb b x), and-or_distrib_left (eqb b n) (ltb a n && g a) (eqb a x)));
      }

module _ (map : Roadmap) (segment : Float) (k : KeepOut) (i : ℕ) where
  -- the former number of the j-th that stays
  abbrev pub former : ℕ → ℕ
  former j = get_or (stayed_of k map.milestones i) j 0

  -- the legs that stood, and which of them are hit, by the former number
  abbrev pub row : ℕ → Bool
  row = leg_at map.legs i

  abbrev pub hit : ℕ → Bool
  hit x = hit_of segment k (state_at map.milestones i) (state_at map.milestones x)

  -- the leg to the j-th that stays, if its former number is below o
  abbrev pub kept_to : ℕ → ℕ → Bool
  kept_to o j = ltb (former j) o && (row (former j) && not (hit (former j)))

  module _ {at : List (Option ℕ)} {n : ℕ} (many : n ≡ length (stayed_of k map.milestones i)) (w : Numbers (stayed_of k map.milestones i) at i) where
    -- no leg is left from o on
    pub kept_all : {o : ℕ} → Clear row o i → (j : ℕ) → j < n → row (former j) && not (hit (former j)) ≡ kept_to o j
    kept_all {o} clear j h =
        elim (dec_lt (former j) o) [
          | yes l ↦ rw (lt-ltb (former j) o l)
          | no l ↦ rw (clear (former j) (omega arith) (w.below j (omega arith)), le-ltb (former j) o (omega arith))
        ]

    -- the next leg goes to o
    module _ {from o : ℕ} (next : First row from i o) where
      -- another former number
      other : (j : ℕ) → (former j ≡ o → ⊥) → kept_to (o + 1) j ≡ kept_to from j
      other j e =
          elim (dec_lt (former j) from) [
            | yes l ↦ rw (lt-ltb (former j) from l, lt-ltb (former j) (o + 1) (omega (arith, next.onward)))
            | no l ↦
                elim (dec_lt (former j) o) [
                  | yes m ↦ rw (next.passed (former j) (omega arith) m, le-ltb (former j) from (omega arith)) (and-false (ltb (former j) (o + 1)))
                  | no m ↦ rw (le-ltb (former j) (o + 1) (beyond m), le-ltb (former j) from (omega arith))
                ]
          ]
        where
          beyond : (former j < o → ⊥) → o + 1 ≤ former j
          beyond m = elim (dec_lt o (former j)) [ yes l ↦ omega arith | no l ↦ absurd (e (omega arith)) ]

      -- this one
      this_from : (j : ℕ) → former j ≡ o → kept_to from j ≡ false
      this_from j e = rw (e, le-ltb o from next.onward)

      this_to : (j : ℕ) → former j ≡ o → kept_to (o + 1) j ≡ not (hit o)
      this_to j e = rw (e, lt-ltb o (o + 1) (omega arith), next.here)

      pub kept_hit : hit o ≡ true → (j : ℕ) → j < n → kept_to (o + 1) j ≡ kept_to from j
      kept_hit t j h = elim (ℕ_discrete (former j) o) [ yes e ↦ this_to j e ∙ rw t (sym (this_from j e)) | no e ↦ other j e ]

      pub kept_gone : get_or at o None ≡ None → (j : ℕ) → j < n → kept_to (o + 1) j ≡ kept_to from j
      kept_gone g j h = other j (λ e. let z : None ≡ Some j = sym g ∙ ap (λ (x : ℕ). get_or at x None) (sym e) ∙ w.back j (omega arith) in cc)

      module _ {x : ℕ} (there : get_or at o None ≡ Some x) where
        pub kept_at : x < n
        kept_at = omega (arith, w.there o x there)

        pub kept_free : hit o ≡ false → (j : ℕ) → j < n → kept_to (o + 1) j ≡ kept_to from j || eqb j x
        kept_free f j h =
            elim (ℕ_discrete (former j) o) [
              | yes e ↦
                  (let z : Some j ≡ Some x = sym (w.back j (omega arith)) ∙ ap (λ (x : ℕ). get_or at x None) e ∙ there in
                  let y : j ≡ x = cc in
                  this_to j e ∙ rw (f, this_from j e, eq-eqb j x y))
              | no e ↦ other j e ∙ rw (ne_eqb j x (λ z. e (ap (λ (x : ℕ). former x) z ∙ (w.there o x there).1))) (sym (or-false (kept_to from j)))
            ]
