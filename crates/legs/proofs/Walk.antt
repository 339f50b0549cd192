-- The walk over a row, a word at a time: what the word at the place `at`, shifted to that place, tells of the row.
use Prim.Native.Nat.{ℕ, ◌+◌, ◌*◌, ◌-◌, ◌/◌, ◌%◌, ◌^◌, ◌≤◌, ◌<◌}
use mathlib.Core.Bool.{Bool, false, and-true}
use Rattle.std.specs.Bool.{then_some}
use mathlib.Core.List.{List}
use mathlib.Core.Path.{◌≡◌, sym, ◌∙◌, ap}
use native.Mathlib.Omega.{arith}
use native.Mathlib.Decide.{dec_lt}
use borrow.Author.Tests.{lt-ltb, le-ltb}
use lib.Dec.{ltb}
use lib.Count.{count_trailing_zeros}
use lib.ListN.{get_or, replicate}
use lib.Pow.{shr_lt, shr_le}
use Rattle.legs.specs.Bits.{bit_of, leg_at, unseen_at, Without}
use Rattle.std.specs.Prelude.{Option, Some, None}
use Rattle.legs.specs.Next.{Clear, First, Next}
use Rattle.legs.proofs.Square.{cleared}
use Rattle.legs.proofs.Zeros.{tz_low, tz_bit, tz_lt, no_bits, shifted_bit}

pub none_passed : (row : ℕ → Bool) (from : ℕ) → Clear row from from
none_passed row from j a b = absurd (away a b)
  where
    away : {j from : ℕ} → from ≤ j → j < from → ⊥
    away a b = omega arith

-- a number from at on is at and some more
beyond : (row : ℕ → Bool) (at j : ℕ) → at ≤ j → (b : Bool) → row (at + (j - at)) ≡ b → row j ≡ b
beyond row at j h b e = let p : at + (j - at) ≡ j = omega arith in rw p at e

module _ (legs : List ℕ) (i : ℕ) (seen : List ℕ) (at word rest : ℕ) (is : Without (get_or legs (4 * i + at / 64) 0) (get_or seen (at / 64) 0) word)
    (shifted : rest ≡ word / 2 ^ (at % 64)) where
  abbrev row : ℕ → Bool
  row = unseen_at legs i seen

  abbrev zeros : ℕ
  zeros = count_trailing_zeros 64 rest

  row_here : (k : ℕ) → at % 64 + k < 64 → row (at + k) ≡ bit_of rest k
  unfolding unseen_at leg_at
  row_here k h =
      let p : (at + k) / 64 ≡ at / 64 = omega arith in
      let q : (at + k) % 64 ≡ at % 64 + k = omega arith in
      let z : 4 * 0 + at / 64 ≡ at / 64 = omega arith in
      rw (p, q, z, shifted) (sym (is.is (at % 64 + k)) ∙ sym (shifted_bit word (at % 64) k))

  low : rest < 2 ^ (64 - at % 64)
  low =
      let p : 64 - at % 64 + at % 64 ≡ 64 = omega arith in
      let q : word < 2 ^ (64 - at % 64 + at % 64) = rw p is.small in
      rw shifted (shr_lt (64 - at % 64) (at % 64) q)

  below : rest < 2 ^ 64
  below = rw shifted (omega (arith, shr_le word (at % 64), is.small))

  pub zeros_few : 0 < rest → zeros < 64 - at % 64
  zeros_few some = tz_lt 64 (64 - at % 64) rest some low (omega arith)

  module _ (from : ℕ) (onward : from ≤ at) (passed : Clear row from at) where
    -- none is set before what is reached
    further : (to : ℕ) → ((j : ℕ) → at ≤ j → j < to → row j ≡ false) → Clear row from to
    further to h j a b = elim (dec_lt j at) [ yes p ↦ passed j a p | no p ↦ h j (omega arith) b ]

    abbrev next : ℕ
    next = at + zeros

    module _ (some : 0 < rest) where
      none_before : Clear row from next
      none_before =
          let few = zeros_few some in
          further next (λ j a b. beyond row at j a false (row_here (j - at) (omega arith) ∙ tz_low 64 rest (j - at) (omega arith)))

      first : (end : ℕ) → next < end → First row from end next
      first end p =
          let few = zeros_few some in
          record { onward = omega arith; within = p; passed = none_before; here = row_here zeros (omega arith) ∙ tz_bit 64 rest some below }

      -- a word with a bit left: the lowest of them is next, unless it is past the end
      pub found : (end : ℕ) → Next row from end (then_some (ltb next end) next)
      found end =
          elim (dec_lt next end) [
            | yes p ↦ rw (lt-ltb next end p) (first end p)
            | no p ↦ rw (le-ltb next end (omega arith)) (λ j a b. none_before j a (omega arith))
          ]

    -- a word with none left is passed
    pub no_more : rest ≡ 0 → Clear row from (64 * (at / 64 + 1))
    no_more e =
        further (64 * (at / 64 + 1))
        (λ j a b. beyond row at j a false (row_here (j - at) (omega arith) ∙ ap (λ (x : ℕ). bit_of x (j - at)) e ∙ no_bits (j - at)))

-- where none was seen
all_unseen : (legs : List ℕ) (i j : ℕ) → unseen_at legs i (replicate 4 0) j ≡ leg_at legs i j
unfolding unseen_at
all_unseen legs i j = rw (cleared 4 0 j) (and-true (leg_at legs i j))

pub next_of_all : (legs : List ℕ) (i from end : ℕ) (r : Option ℕ) → Next (unseen_at legs i (replicate 4 0)) from end r → Next (leg_at legs i) from end r
next_of_all legs i from end None clear = λ j a b. sym (all_unseen legs i j) ∙ clear j a b
next_of_all legs i from end (Some r) n =
    record {
      onward = n.onward;
      within = n.within;
      passed = λ j a b. sym (all_unseen legs i j) ∙ n.passed j a b;
      here = sym (all_unseen legs i r) ∙ n.here;
    }
