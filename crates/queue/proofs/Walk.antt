-- A walk over flags that queues the numbers of those that are set: what is queued when the number i is reached, and what a turn does.
use Prim.Native.Nat.{ℕ, zero, suc, ◌+◌, ◌-◌, ◌≤◌, ◌<◌}
use mathlib.Core.Bool.{Bool, true, false, not, cond, and-eq-true_iff}
use mathlib.Core.List.{List, [], ◌∷◌, map}
use mathlib.Core.Path.{◌≡◌, refl, sym, ◌∙◌, ap}
use native.Mathlib.Omega.{arith}
use native.Mathlib.Numerals.{add-one}
use lib.ListN.{length, get_or, take}
use Rattle.std.proofs.lemmas.List.{length-map, length-take-le, map-append, take_more}
use Rattle.legs.specs.Bits.{leg_at, unseen_at}
use Rattle.legs.specs.Next.{Clear, First}
use Rattle.roadmap.specs.View.{span_of}
use Rattle.roadmap.proofs.Span.{span_snoc, span_long}
use Rattle.queue.specs.Places.{numbers_of, Place, queued_of, push_of}
use Rattle.queue.proofs.Places.{push_yes, push_more}

-- the flags of a list
module _ {A : Type 0} (reached : A → Bool) (xs : List A) (f : ℕ) (q : List Place) where
  abbrev pub listed : ℕ → List Place
  listed i = push_of f q (numbers_of 0 (map reached (take i xs)))

  module _ (i : ℕ) (d : A) (h : i < length xs) where
    listed_more : listed (i + 1) ≡ push_of f (listed i) (cond (reached (get_or xs i d)) (i ∷ []) [])
    listed_more =
        let long : length (map reached (take i xs)) ≡ i = length-map (take i xs) reached ∙ length-take-le i xs (omega arith) in
        rw (take_more xs i d h, map-append reached (take i xs) (get_or xs i d ∷ [])) (push_more f q (map reached (take i xs)) (reached (get_or xs i d)) ∙ rw long)

    pub listed_yes : reached (get_or xs i d) ≡ true → push_of f (listed i) (i ∷ []) ≡ listed (i + 1)
    listed_yes e = sym (listed_more ∙ rw e)

    pub listed_not : reached (get_or xs i d) ≡ false → listed i ≡ listed (i + 1)
    unfolding push_of
    listed_not e = sym (listed_more ∙ rw e)

-- the flags of a row
module _ (row : ℕ → Bool) (f : ℕ) (q : List Place) where
  abbrev pub walked : ℕ → List Place
  walked i = push_of f q (numbers_of 0 (span_of 0 i row))

  pub walked_none : q ≡ walked 0
  unfolding push_of numbers_of span_of
  walked_none = refl

  walked_more : (i : ℕ) → walked (i + 1) ≡ push_of f (walked i) (cond (row i) (i ∷ []) [])
  walked_more i =
      let z : 0 + i ≡ i = omega arith in
      rw (add-one i, span_snoc 0 i row, z) (push_more f q (span_of 0 i row) (row i) ∙ rw (span_long 0 i row))

  pub walked_yes : (i : ℕ) → row i ≡ true → push_of f (walked i) (i ∷ []) ≡ walked (i + 1)
  walked_yes i e = sym (walked_more i ∙ rw e)

  -- those that are queued are passed
  module _ (r : List Place) where
    walked_next : (i : ℕ) (b : Bool) → row i ≡ b → (b ≡ true → queued_of r i ≡ true) → r ≡ walked i → r ≡ walked (i + 1)
    unfolding push_of
    walked_next i true e queued h = sym (push_yes f r i (queued refl)) ∙ ap (λ (x : List Place). push_of f x (i ∷ [])) h ∙ walked_yes i e
    walked_next i false e queued h = h ∙ sym (walked_more i ∙ rw e)

    walked_on : (k i : ℕ) → ((j : ℕ) → i ≤ j → j < i + k → row j ≡ true → queued_of r j ≡ true) → r ≡ walked i → r ≡ walked (i + k)
    walked_on zero i queued h = let z : i + 0 ≡ i = omega arith in rw z h
    walked_on (suc k) i queued h =
        let z : i + k + 1 ≡ i + suc k = omega arith in
        rw (← z) (walked_next (i + k) (row (i + k)) refl (queued (i + k) (omega arith) (omega arith)) (walked_on k i (λ j a b. queued j a (omega arith)) h))

module _ (legs : List ℕ) (u : ℕ) (seen : List ℕ) (f : ℕ) (q r : List Place) (same : (j : ℕ) → j < 256 → leg_at seen 0 j ≡ queued_of r j) where
  abbrev row : ℕ → Bool
  row = leg_at legs u

  queued_leg : (j : ℕ) → j < 256 → unseen_at legs u seen j ≡ false → row j ≡ true → queued_of r j ≡ true
  unfolding unseen_at
  queued_leg j low e h = sym (same j low) ∙ by_seen (leg_at seen 0 j) (rw h at e)
    where
      by_seen : (b : Bool) → not b ≡ false → b ≡ true
      by_seen true e = refl
      by_seen false e = cc

  -- no neighbour is left below `end`
  pub walked_clear : (i end : ℕ) → i ≤ end → end ≤ 256 → Clear (unseen_at legs u seen) i end → r ≡ walked row f q i → r ≡ walked row f q end
  walked_clear i end onward low clear h =
      let z : i + (end - i) ≡ end = omega arith in
      rw z at (walked_on row f q r (end - i) i (λ j a b. queued_leg j (omega arith) (clear j a (omega arith))) h)

  -- the next one is queued
  pub walked_first :
      (i end v : ℕ) → end ≤ 256 → First (unseen_at legs u seen) i end v → r ≡ walked row f q i → push_of f r (v ∷ []) ≡ walked row f q (v + 1)
  unfolding unseen_at
  walked_first i end v low first h =
      ap (λ (x : List Place). push_of f x (v ∷ [])) (walked_clear i v first.onward (omega (arith, first.within)) first.passed h)
      ∙ walked_yes row f q v ((and-eq-true_iff _ _).0 first.here).0
