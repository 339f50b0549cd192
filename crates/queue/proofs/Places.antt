-- Laws of a queue as a list.
use Prim.Native.Nat.{ℕ, ◌+◌, ◌≤◌, ◌<◌}
use mathlib.Core.Bool.{Bool, true, false, ◌||◌, cond, or-false, or_assoc}
use mathlib.Core.List.{List, [], ◌∷◌, ◌++◌}
use mathlib.Core.Path.{◌≡◌, refl, sym}
use native.Mathlib.Omega.{arith}
use lib.Dec.{eqb}
use lib.ListN.{length}
use Rattle.std.specs.List.{All}
use Rattle.std.proofs.lemmas.List.Elements.{All-nil, All-cons, All-head, All-tail, All-push}
use Rattle.queue.specs.Places.{numbers_of, Place, queued_of, push_of}

-- the numbers of flags with one flag more
numbers_more : (i : ℕ) (fs : List Bool) (b : Bool) → numbers_of i (fs ++ (b ∷ [])) ≡ numbers_of i fs ++ cond b ((i + length fs) ∷ []) []
unfolding numbers_of
numbers_more i [] b = let z : i + 0 ≡ i = omega arith in rw z
numbers_more i (true ∷ fs) b =
    let z : i + 1 + length fs ≡ i + length (true ∷ fs) = omega arith in
    rw (numbers_more (i + 1) fs b, z)
numbers_more i (false ∷ fs) b =
    let z : i + 1 + length fs ≡ i + length (false ∷ fs) = omega arith in
    rw (numbers_more (i + 1) fs b, z)

-- each is the number of a flag
pub numbers_low : (i n : ℕ) (fs : List Bool) → i + length fs ≤ n → All (λ (v : ℕ). v < n) (numbers_of i fs)
unfolding numbers_of
numbers_low i n [] h = All-nil (λ (v : ℕ). v < n)
numbers_low i n (true ∷ fs) h = All-cons (λ (v : ℕ). v < n) i (numbers_of (i + 1) fs) (omega arith) (numbers_low (i + 1) n fs (omega arith))
numbers_low i n (false ∷ fs) h = numbers_low (i + 1) n fs (omega arith)

module _ (f : ℕ) where
  -- a queue with one place more
  abbrev pub with_place : List Place → ℕ → List Place
  with_place q v = q ++ (record { number = v; from = f } ∷ [])

  pub queued_more : (q : List Place) (v w : ℕ) → queued_of (with_place q v) w ≡ queued_of q w || eqb v w
  unfolding queued_of
  queued_more [] v w = or-false (eqb v w)
  queued_more (p ∷ q) v w = rw (queued_more q v w) (sym (or_assoc (eqb p.number w) (queued_of q w) (eqb v w)))

  -- one that is queued changes nothing, and another comes last
  pub push_yes : (q : List Place) (v : ℕ) → queued_of q v ≡ true → push_of f q (v ∷ []) ≡ q
  unfolding push_of
  push_yes q v e = rw e

  pub push_not : (q : List Place) (v : ℕ) → queued_of q v ≡ false → push_of f q (v ∷ []) ≡ with_place q v
  unfolding push_of
  push_not q v e = rw e

  push_append : (q : List Place) (vs ws : List ℕ) → push_of f q (vs ++ ws) ≡ push_of f (push_of f q vs) ws
  unfolding push_of
  push_append q [] ws = refl
  push_append q (v ∷ vs) ws = push_append (cond (queued_of q v) q (with_place q v)) vs ws

  -- the numbers of flags with one flag more
  pub push_more :
      (q : List Place) (fs : List Bool) (b : Bool) →
      push_of f q (numbers_of 0 (fs ++ (b ∷ []))) ≡ push_of f (push_of f q (numbers_of 0 fs)) (cond b (length fs ∷ []) [])
  push_more q fs b =
      let z : 0 + length fs ≡ length fs = omega arith in
      rw (numbers_more 0 fs b, z) (push_append q (numbers_of 0 fs) (cond b (length fs ∷ []) []))

  -- a queue of numbers below n, with some more of them
  module _ (n : ℕ) where
    abbrev Low : List Place → Type 0
    Low = All (λ (p : Place). p.number < n)

    pub push_low : (q : List Place) (vs : List ℕ) → Low q → All (λ (v : ℕ). v < n) vs → Low (push_of f q vs)
    unfolding push_of
    push_low q [] low h = low
    push_low q (v ∷ vs) low h = push_low (cond (queued_of q v) q (with_place q v)) vs (one (queued_of q v)) (All-tail (λ (v : ℕ). v < n) v vs h)
      where
        one : (b : Bool) → Low (cond b q (with_place q v))
        one true = low
        one false = All-push (λ (p : Place). p.number < n) q (record { number = v; from = f }) low (All-head (λ (v : ℕ). v < n) v vs h)
