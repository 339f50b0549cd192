-- Document 01, "Motion check": q, n, and the points that are tested, in order.
use Rattle.std.specs.Prelude.{ℕ, zero, suc, ◌+◌, ◌≤◌, cond, Option, Some, None, List, [], ◌∷◌, ◌≡◌, leb, pos, Float}
use Rattle.std.specs.Float.{binary64}
use Rattle.std.specs.Float.Ieee.{mul, div, le, of_int, of_bits}
use Rattle.state.specs.Distance.{distance_of}
use Rattle.state.specs.Steering.{interpolate_of}
use Rattle.state.specs.declared.State.{State}

-- 0.1, the part of a segment that one step takes, and 4,096, the most points
abbrev pub part : Float
part = of_bits binary64 0x3fb9_9999_9999_999a

abbrev pub most_points : Float
most_points = of_bits binary64 0x40b0_0000_0000_0000

-- a whole number as a float
abbrev pub whole_of : ℕ → Float
whole_of n = of_int binary64 (pos n)

-- q = distance(from, to) / (segment length * 0.1)
unfoldable pub quotient_of : Float → State → State → Float
quotient_of segment from to = div binary64 (distance_of from to) (mul binary64 segment part)

-- the first of n, n + 1, .. n + fuel that is not below q; n + fuel if none is
unfoldable pub search_of : ℕ → ℕ → Float → ℕ
search_of zero n q = n
search_of (suc fuel) n q =
    let later = search_of fuel (n + 1) q in
    cond (le q (whole_of n)) n later

-- n is the least whole number not below q, for a q of at most 4,096 (the theorem `least_is_least` says so)
unfoldable pub least_of : Float → ℕ
least_of q = search_of 4096 0 q

pub record Least (q : Float) (n : ℕ) : Type 0 where
  pub is : n ≡ least_of q
  pub small : n ≤ 4096

-- if q isn't at most 4,096 there are too many; otherwise n
unfoldable pub steps_of : Float → State → State → Option ℕ
steps_of segment from to =
    let q = quotient_of segment from to in
    cond (le q most_points) (Some (least_of q)) None

-- the point at t = i/n
unfoldable pub part_way : State → State → ℕ → ℕ → State
part_way from to n i = interpolate_of from to (div binary64 (whole_of i) (whole_of n))

-- k of them, from the i-th on
unfoldable pub part_ways : State → State → ℕ → ℕ → ℕ → List State
part_ways from to n i zero = []
part_ways from to n i (suc k) = part_way from to n i ∷ part_ways from to n (i + 1) k

-- what is tested: if n is 0 or 1, `to`; else the points at t = i/n for i = 1 to n, in order
unfoldable pub tested_of : State → State → ℕ → List State
tested_of from to n = cond (leb n 1) (to ∷ []) (part_ways from to n 1 n)

-- the i-th of them
unfoldable pub point_at : State → State → ℕ → ℕ → State
point_at from to n i = cond (leb n 1) to (part_way from to n i)

-- the checked points of a motion: too many, or these
pub data Checked : Type 0 where
  too_many : Checked
  points : List State → Checked

unfoldable pub checked_at : State → State → Option ℕ → Checked
checked_at from to None = too_many
checked_at from to (Some n) = points (tested_of from to n)

unfoldable pub checked_of : Float → State → State → Checked
checked_of segment from to = checked_at from to (steps_of segment from to)
