-- Decimal digits at the front of a text: `0` to `9` are the bytes 48 to 57.
use Rattle.std.specs.Char.{is_ascii_digit}
use Rattle.std.specs.Prelude.{ℕ, ◌+◌, ◌-◌, ◌*◌, cond, List, [], ◌∷◌}

-- the digits that a text starts with
unfoldable pub lead : List ℕ → List ℕ
lead [] = []
lead (b ∷ bs) = let later = lead bs in cond (is_ascii_digit b) (b ∷ later) []

-- what follows them
unfoldable pub after : List ℕ → List ℕ
after [] = []
after (b ∷ bs) = let later = after bs in cond (is_ascii_digit b) later (b ∷ bs)

-- a value with more digits behind its own
unfoldable pub read_on : ℕ → List ℕ → ℕ
read_on value [] = value
read_on value (b ∷ bs) = read_on (value * 10 + (b - 48)) bs
