-- A walk over the bits of a row in ascending order.
use Rattle.std.specs.Prelude.{ℕ, ◌≤◌, ◌<◌, Bool, true, false, Option, MatchOption, ◌≡◌}

-- no bit is set from `from` on and below `end`
abbrev pub Clear : (ℕ → Bool) → ℕ → ℕ → Type 0
Clear row from end = (j : ℕ) → from ≤ j → j < end → row j ≡ false

-- r is the first of these whose bit is set
pub record First (row : ℕ → Bool) (from end r : ℕ) : Type 0 where
  pub onward : from ≤ r
  pub within : r < end
  pub passed : Clear row from r
  pub here : row r ≡ true

-- the first of them, or none where no bit is set
abbrev pub Next : (ℕ → Bool) → ℕ → ℕ → Option ℕ → Type 0
Next row from end r = MatchOption r (Clear row from end) (First row from end)
