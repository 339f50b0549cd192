-- The call scripts' numbers. A number is one of
-- - a decimal numeral, `-`? digits, and optionally `.` and digits: at most 15 digits in all, correctly rounded to binary64;
-- - `x` and exactly 16 lower-case hexadecimal digits: the bits of a binary64.
-- The bytes of `-`, `.` and `x` are 45, 46 and 120.
use Rattle.std.specs.Prelude.{ℕ, ◌+◌, ◌*◌, Bool, cond, List, [], ◌∷◌, leb, eqb, length, drop, get_or, Float, Option, Some, None}
use Rattle.std.specs.Float.{binary64}
use Rattle.std.specs.Float.Ieee.{of_bits}
use Rattle.numeral.specs.Decimal.{decimal_of}
use Rattle.numeral.specs.Hex.{hex_of}
use Rattle.words.specs.Digits.{lead, after, read_on}

-- ---- decimal numerals
-- a value of so many digits, so many of them behind the point: at most 15 digits in all
unfoldable pub limited_of : Bool → ℕ → ℕ → ℕ → Option Float
limited_of negative value digits places = cond (leb digits 15) (decimal_of negative value places) None

-- the numeral of the digits before the point and of those behind it
unfoldable pub made_of : Bool → List ℕ → List ℕ → Option Float
made_of negative ds fs = limited_of negative (read_on (read_on 0 ds) fs) (length ds + length fs) (length fs)

-- behind the point: digits, and nothing after them
unfoldable pub part_of : Bool → List ℕ → List ℕ → List ℕ → Option Float
part_of negative ds [] rest = None
part_of negative ds (f ∷ fs) [] = made_of negative ds (f ∷ fs)
part_of negative ds (f ∷ fs) (b ∷ bs) = None

-- digits, and after them nothing, or a point and digits
unfoldable pub plain_of : Bool → List ℕ → List ℕ → Option Float
plain_of negative [] rest = None
plain_of negative (d ∷ ds) [] = made_of negative (d ∷ ds) []
plain_of negative (d ∷ ds) (b ∷ bs) = cond (eqb b 46) (part_of negative (d ∷ ds) (lead bs) (after bs)) None

unfoldable pub is_negative : List ℕ → Bool
is_negative word = eqb (get_or word 0 0) 45

unfoldable pub sign_length_of : List ℕ → ℕ
sign_length_of word = cond (is_negative word) 1 0

unfoldable pub decimal_word : List ℕ → Option Float
decimal_word word = let digits = drop (sign_length_of word) word in plain_of (is_negative word) (lead digits) (after digits)

-- ---- bits
-- hexadecimal digits behind a value, the first of them read already
unfoldable pub bits_on : ℕ → Option ℕ → (ℕ → Option Float) → Option Float
bits_on value (Some d) later = later (value * 16 + d)
bits_on value None later = None

-- the binary64 whose bits are a value with hexadecimal digits behind it
unfoldable pub bits_from : ℕ → List ℕ → Option Float
bits_from value [] = Some (of_bits binary64 value)
bits_from value (b ∷ bs) = bits_on value (hex_of b) (λ v. bits_from v bs)

unfoldable pub hex_word : List ℕ → Option Float
hex_word digits = cond (eqb (length digits) 16) (bits_from 0 digits) None

-- ---- numbers
unfoldable pub number_of : List ℕ → Option Float
number_of word = cond (eqb (get_or word 0 0) 120) (hex_word (drop 1 word)) (decimal_word word)

-- a whole number: digits alone, at most 15
unfoldable pub whole_in : List ℕ → List ℕ → Option ℕ
whole_in [] rest = None
whole_in (d ∷ ds) [] = cond (leb (length (d ∷ ds)) 15) (Some (read_on 0 (d ∷ ds))) None
whole_in (d ∷ ds) (b ∷ bs) = None

unfoldable pub whole_of : List ℕ → Option ℕ
whole_of word = whole_in (lead word) (after word)
