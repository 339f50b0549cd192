-- The walk over the checked points: what one turn of its loop does to the definition. A point is a state s with the two tests that
-- make it valid.
use Prim.Native.Nat.{ℕ, zero, suc, ◌+◌, ◌-◌, ◌≤◌, ◌<◌}
use mathlib.Core.Bool.{Bool, true, false, cond}
use mathlib.Core.List.{List, [], ◌∷◌}
use mathlib.Core.Path.{◌≡◌, refl, ◌∙◌}
use native.Mathlib.Omega.{arith}
use native.Mathlib.Decide.{dec_le}
use borrow.Author.Tests.{le-leb, lt-leb}
use lib.Dec.{leb}
use lib.Ieee.{Float}
use Rattle.state.specs.Ranges.{within_of}
use Rattle.state.specs.declared.State.{State}
use Rattle.fields.specs.declared.Limits.{Limits}
use Rattle.keep_out.specs.Covers.{covered_of}
use Rattle.keep_out.specs.declared.KeepOut.{KeepOut}
use Rattle.std.specs.Prelude.{Some, None}
use Rattle.motion.specs.Valid.{valid_of}
use Rattle.motion.specs.Points.{part_way, part_ways, tested_of, point_at, steps_of, checked_at, checked_of}
use Rattle.motion.specs.Accepts.{all_valid, accepted_of, accepts_of}

-- the tested points by their numbers, k from the i-th on
unfoldable pub points_from : State → State → ℕ → ℕ → ℕ → List State
points_from from to n i zero = []
points_from from to n i (suc k) = point_at from to n i ∷ points_from from to n (i + 1) k

module _ (from to : State) (n : ℕ) where
  pub point_near : n ≤ 1 → to ≡ point_at from to n 1
  unfolding point_at
  point_near h = rw (le-leb n 1 h)

  pub point_way : (i : ℕ) → 1 < n → part_way from to n i ≡ point_at from to n i
  unfolding point_at
  point_way i h = rw (lt-leb n 1 h)

  ways_are : (i k : ℕ) → 1 < n → part_ways from to n i k ≡ points_from from to n i k
  unfolding part_ways points_from
  ways_are i zero h = refl
  ways_are i (suc k) h = rw (point_way i h, ways_are (i + 1) k h)

  -- one point for n of 0 or 1, else n
  pub tested_are : (last : ℕ) → (n ≤ 1 → last ≡ 1) → (1 < n → last ≡ n) → tested_of from to n ≡ points_from from to n 1 last
  unfolding tested_of
  tested_are last p q = elim (dec_le n 1) [ yes h ↦ near h | no h ↦ far (omega arith) ]
    where
      near : n ≤ 1 → cond (leb n 1) (to ∷ []) (part_ways from to n 1 n) ≡ points_from from to n 1 last
      near h = unfold points_from in rw (le-leb n 1 h, p h, ← point_near h)

      far : 1 < n → cond (leb n 1) (to ∷ []) (part_ways from to n 1 n) ≡ points_from from to n 1 last
      far h = rw (lt-leb n 1 h, q h, ways_are 1 n h)

module _ (limits : Limits) (ks : List KeepOut) (from to : State) (n last : ℕ) where
  -- what is left of the walk at the i-th point
  abbrev pub left_at : ℕ → Bool
  left_at i = all_valid limits ks (points_from from to n i (last + 1 - i))

  pub walk_end : (i : ℕ) → last < i → left_at i ≡ true
  unfolding all_valid points_from
  walk_end i h = let k : last + 1 - i ≡ 0 = omega arith in rw k

  module _ (i : ℕ) (s : State) (h : i ≤ last) (is : s ≡ point_at from to n i) where
    at_point : left_at i ≡ cond (valid_of limits ks s) (left_at (i + 1)) false
    unfolding all_valid points_from
    at_point = let k : last + 1 - i ≡ suc (last + 1 - (i + 1)) = omega arith in rw (k, ← is)

    pub point_out : within_of limits.low limits.high s ≡ false → left_at i ≡ false
    point_out e = at_point ∙ (unfold valid_of in rw e)

    pub point_hit : within_of limits.low limits.high s ≡ true → covered_of ks s ≡ true → left_at i ≡ false
    point_hit e k = at_point ∙ (unfold valid_of in rw (e, k))

    pub point_free : within_of limits.low limits.high s ≡ true → covered_of ks s ≡ false → left_at i ≡ left_at (i + 1)
    point_free e k = at_point ∙ (unfold valid_of in rw (e, k))

-- The two cases of the motion check.
module _ (limits : Limits) (segment : Float) (ks : List KeepOut) (from to : State) where
  pub accepts_many : None ≡ steps_of segment from to → false ≡ accepts_of limits segment ks from to
  unfolding accepts_of checked_of checked_at accepted_of
  accepts_many e = rw (← e)

  pub accepts_count : (n : ℕ) → Some n ≡ steps_of segment from to → all_valid limits ks (tested_of from to n) ≡ accepts_of limits segment ks from to
  unfolding accepts_of checked_of checked_at accepted_of
  accepts_count n e = rw (← e)
