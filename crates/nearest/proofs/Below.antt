-- The nearest is one of the nodes.
use Prim.Native.Nat.{ℕ, ◌+◌, ◌≤◌, ◌<◌}
use mathlib.Core.Bool.{Bool, true, false, cond}
use mathlib.Core.List.{List, [], ◌∷◌}
use native.Mathlib.Omega.{arith}
use lib.ListN.{length}
use lib.Ieee.{lt}
use Rattle.state.specs.Distance.{distance_of}
use Rattle.state.specs.declared.State.{State}
use Rattle.nearest.specs.declared.Near.{Near}
use Rattle.nearest.specs.Nearest.{better_of, nearest_from, nearest_of}

found_below : (s : State) (l : List State) (i : ℕ) (b : Near) → b.index < i → (nearest_from s b i l).index < i + length l
unfolding nearest_from
found_below s [] i b h = omega arith
found_below s (x ∷ xs) i b h =
    let b' = better_of b i (distance_of x s) in
    let l : b'.index < i + 1 = pick (lt (distance_of x s) b.far) in
    let r : (nearest_from s b' (i + 1) xs).index < i + 1 + length xs = found_below s xs (i + 1) b' l in
    omega (arith, r)
  where
    pick : (t : Bool) → (cond t (record { index = i; far = distance_of x s }) b).index < i + 1
    pick true = omega arith
    pick false = omega arith

-- of so many at the most, and not of none
pub nearest_below : (l : List State) (s : State) (n : ℕ) → 0 < n → length l ≤ n → (nearest_of l s).index < n
unfolding nearest_of
nearest_below [] s n h k = h
nearest_below (x ∷ xs) s n h k =
    let b : Near = record { index = 0; far = distance_of x s } in
    let r : (nearest_from s b 1 xs).index < 1 + length xs = found_below s xs 1 b (omega arith) in
    omega (arith, r)
