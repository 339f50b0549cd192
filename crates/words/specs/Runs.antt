-- What reading the digits that a text starts with comes to. It stops behind them, or before a digit that no numeral has room for.
use Rattle.std.specs.Char.{is_ascii_digit}
use Rattle.std.specs.Prelude.{ℕ, ◌+◌, ◌^◌, ◌≤◌, ◌<◌, true, List, ◌⊎◌, ◌≡◌, length, drop, get_or}
use Rattle.words.specs.Digits.{lead, after, read_on}

-- all of the digits are read
pub record Ended (text : List ℕ) (before value count : ℕ) : Type 0 where
  pub value_is : read_on before (lead text) ≡ value
  pub rest_is : after text ≡ drop count text
  pub count_is : length (lead text) ≡ count

-- another digit follows, and it is at least the 16th, k digits before these included
pub record Long (text : List ℕ) (before count : ℕ) : Type 0 where
  pub inside : count < length text
  pub digit : is_ascii_digit (get_or text count 0) ≡ true
  pub many : (k : ℕ) → before < 10 ^ k → 15 < k + length (lead text)

pub record Reads (text : List ℕ) (before value count : ℕ) : Type 0 where
  pub within : count ≤ length text
  -- k digits and those that are read hold the value
  pub size : (k : ℕ) → before < 10 ^ k → value < 10 ^ (k + count)
  pub run : Ended text before value count ⊎ Long text before count
