-- The search for n: what one turn of its loop does to the definition.
use Prim.Native.Nat.{ℕ, zero, suc, ◌+◌, ◌-◌, ◌≤◌, ◌<◌}
use mathlib.Core.Bool.{Bool, true, false, cond}
use mathlib.Core.Path.{◌≡◌, refl, sym, ◌∙◌, ap, subst}
use native.Mathlib.Omega.{arith}
use native.Mathlib.Decide.{dec_lt}
use lib.Dec.{T, le→leb}
use lib.IntN.{pos}
use lib.Ieee.{Float, binary64, mul, div, le, of_int, of_bits, in_float}
use Rattle.state.specs.Distance.{distance_of}
use Rattle.state.specs.declared.State.{State}
use Rattle.std.specs.Prelude.{Some, None}
use Rattle.motion.specs.Points.{part, whole_of, most_points, quotient_of, search_of, least_of, steps_of}

-- a whole number of at most 4,096 is a float
pub exact : (n : ℕ) → n ≤ 4096 → T (in_float binary64 (pos n))
unfolding in_float
exact n h = le→leb n 9007199254740992 (omega arith)

pub search_here : (fuel n : ℕ) (q : Float) → le q (whole_of n) ≡ true → search_of fuel n q ≡ n
unfolding search_of
search_here zero n q e = refl
search_here (suc fuel) n q e = rw e

pub search_past : (n : ℕ) (q : Float) → n < 4096 → le q (whole_of n) ≡ false → search_of (4096 - n) n q ≡ search_of (4096 - (n + 1)) (n + 1) q
unfolding search_of
search_past n q h e =
    let k : 4096 - n ≡ suc (4096 - (n + 1)) = omega arith in
    rw k (rw e)

most_whole : whole_of 4096 ≡ most_points
unfolding of_int of_bits
most_whole = refl

-- a number that is below q is not the last
pub not_last : (n : ℕ) (q : Float) → le q most_points ≡ true → n ≤ 4096 → le q (whole_of n) ≡ false → n < 4096
not_last n q m h e = elim (dec_lt n 4096) [ yes p ↦ p | no p ↦ absurd (clash p) ]
  where
    clash : (n < 4096 → ⊥) → ⊥
    clash p =
        let k : n ≡ 4096 = omega arith in
        let z : true ≡ false = sym m ∙ ap (le q) (sym most_whole) ∙ ap (λ (j : ℕ). le q (whole_of j)) (sym k) ∙ e in
        subst T z tt

search_most : (fuel n : ℕ) (q : Float) → search_of fuel n q ≤ n + fuel
unfolding search_of
search_most zero n q = omega arith
search_most (suc fuel) n q = pick (le q (whole_of n)) (search_most fuel (n + 1) q)
  where
    pick : (b : Bool) → search_of fuel (n + 1) q ≤ n + 1 + fuel → cond b n (search_of fuel (n + 1) q) ≤ n + suc fuel
    pick true h = omega arith
    pick false h = omega arith

-- n is at most 4,096
pub steps_few : (segment : Float) (from to : State) (n : ℕ) → Some n ≡ steps_of segment from to → n ≤ 4096
unfolding steps_of least_of
steps_few segment from to n e = pick (le (quotient_of segment from to) most_points) e
  where
    pick : (b : Bool) → Some n ≡ cond b (Some (search_of 4096 0 (quotient_of segment from to))) None → n ≤ 4096
    pick true e = let z : n ≡ search_of 4096 0 (quotient_of segment from to) = cc in omega (arith, search_most 4096 0 (quotient_of segment from to))
    pick false e = let z : ◌≡◌ {A = ℕ} 0 1 = cc in omega arith

-- what the code has of q and n
module _ (segment : Float) (from to : State) (d : Float) (is : d ≡ distance_of from to) where
  abbrev q : Float
  q = div binary64 d (mul binary64 segment part)

  q_is : q ≡ quotient_of segment from to
  unfolding quotient_of
  q_is = rw is

  pub steps_count : (n : ℕ) → le q most_points ≡ true → n ≡ least_of q → Some n ≡ steps_of segment from to
  unfolding steps_of
  steps_count n e h = rw (← q_is, e, h)

  pub steps_many : le q most_points ≡ false → None ≡ steps_of segment from to
  unfolding steps_of
  steps_many e = rw (← q_is, e)
