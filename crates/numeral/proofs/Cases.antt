-- Which case of `decimal_of` a numeral is in, and its value as the code works it out.
use mathlib.Core.Bool.{true, false}
use mathlib.Core.Path.{◌≡◌, ◌∙◌, ap}
use Prim.Native.Nat.{ℕ, ◌^◌, ◌≤◌, ◌<◌}
use native.Mathlib.Nat.{pow-le-pow_right, le_trans, lt_of_lt_of_le}
use native.Mathlib.Omega.{arith}
use borrow.Author.Tests.{le-leb, lt-ltb}
use lib.Dec.{T, le→leb, lit≤, lit<}
use lib.IntN.{pos}
use lib.Ieee.{binary64, in_float, of_int, div, neg, round}
use Rattle.std.specs.Prelude.{Some}
use Rattle.numeral.specs.Decimal.{short_of, decimal_of}
use Rattle.numeral.proofs.Rounding.{one_division_rounds_once, negated_rounding}

-- ---- the powers of ten are whole numbers that a binary64 holds
pub power_small : (k : ℕ) → k ≤ 15 → 10 ^ k ≤ 2 ^ 53
power_small k h = le_trans (pow-le-pow_right {n = 10} (lit< tt) h) (lit≤ tt)

power_above_zero : (k : ℕ) → 0 < 10 ^ k
power_above_zero k = lt_of_lt_of_le (lit< tt) (pow-le-pow_right {n = 10} (lit< tt) {i = 0} {j = k} (omega arith))

pub exact : (n : ℕ) → n ≤ 2 ^ 53 → T (in_float binary64 (pos n))
unfolding in_float
exact n h = le→leb n (2 ^ 53) h

-- ---- the value of a numeral that is short
module _ (digits places : ℕ) (h : digits < 10 ^ 15) (k : places ≤ 15) (p : ℕ) (e : p ≡ 10 ^ places) where
  is_short : short_of digits places ≡ true
  unfolding short_of
  is_short = rw (lt-ltb digits (10 ^ 15) h, le-leb places 15 k)

  value_is : div binary64 (of_int binary64 (pos digits)) (of_int binary64 (pos p)) ≡ round binary64 false digits (10 ^ places)
  value_is =
      ap (λ (q : ℕ). div binary64 (of_int binary64 (pos digits)) (of_int binary64 (pos q))) e
      ∙ one_division_rounds_once digits (10 ^ places) (omega arith) (power_small places k) (power_above_zero places)

  pub plain : Some (div binary64 (of_int binary64 (pos digits)) (of_int binary64 (pos p))) ≡ decimal_of false digits places
  unfolding decimal_of
  plain = rw is_short (ap Some value_is)

  pub negated : Some (neg (div binary64 (of_int binary64 (pos digits)) (of_int binary64 (pos p)))) ≡ decimal_of true digits places
  unfolding decimal_of
  negated = rw is_short (ap Some (ap neg value_is ∙ negated_rounding binary64 digits (10 ^ places)))
