-- The call scripts' decimal numerals: at most 15 digits in all, correctly rounded to binary64.
use Rattle.std.specs.Prelude.{ℕ, ◌^◌, Bool, ◌&&◌, cond, ltb, leb, Float, Option, Some, None}
use Rattle.std.specs.Float.{binary64}
use Rattle.std.specs.Float.Ieee.{round}

-- at most 15 digits, and at most 15 of them behind the point
unfoldable pub short_of : ℕ → ℕ → Bool
short_of digits places = ltb digits (10 ^ 15) && leb places 15

-- the binary64 that is nearest to digits / 10 ^ places, with the sign; a zero keeps its sign
unfoldable pub decimal_of : Bool → ℕ → ℕ → Option Float
decimal_of negative digits places = cond (short_of digits places) (Some (round binary64 negative digits (10 ^ places))) None
