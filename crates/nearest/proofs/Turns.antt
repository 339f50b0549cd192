-- What one turn of the search for the nearest node does to the definition.
use Prim.Native.Nat.{ℕ, ◌+◌, ◌≤◌, ◌<◌}
use mathlib.Core.List.{List, [], ◌∷◌, map}
use mathlib.Core.Bool.{Bool, cond}
use mathlib.Core.Path.{◌≡◌, sym, ◌∙◌, ap}
use native.Mathlib.Omega.{arith}
use lib.ListN.{length, get_or, drop}
use lib.Ieee.{Float}
use Rattle.std.proofs.Common.{add-one, drop-cons, drop_of_length-le}
use Rattle.laws.specs.Order.{self}
use Rattle.state.specs.Distance.{distance_of}
use Rattle.state.specs.declared.State.{State}
use Rattle.state.proofs.Good.{distance_good}
use Rattle.tree.specs.declared.Node.{Node}
use Rattle.tree.specs.Table.{state_in}
use Rattle.nearest.specs.declared.Near.{Near}
use Rattle.nearest.specs.Nearest.{better_of, nearest_from, nearest_of}

module _ (l : List Node) (s : State) where
  -- what the search gives from i on, with b as the best so far
  abbrev pub search_at : Near → ℕ → Near
  search_at b i = nearest_from s b i (map state_in (drop i l))

  pub search_next : (b : Near) (i : ℕ) (d : Node) → i < length l → search_at b i ≡ search_at (better_of b i (distance_of (get_or l i d).state s)) (i + 1)
  unfolding nearest_from
  search_next b i d h =
      let e : drop i l ≡ get_or l i d ∷ drop (i + 1) l = rw (add-one, drop-cons l i d h) in
      ap (λ (xs : List Node). nearest_from s b i (map state_in xs)) e

  -- far is the distance of the node at i, and b' the better of b and that node
  pub search_turn : (b b' : Near) (i : ℕ) (d : Node) (far : Float) → i < length l → far ≡ distance_of (get_or l i d).state s → better_of b i far ≡ b' → search_at b i ≡ search_at b' (i + 1)
  search_turn b b' i d far h p q = search_next b i d h ∙ ap (λ (x : Near). search_at x (i + 1)) (rw (← p) q)

  pub search_end : (b : Near) (i : ℕ) → length l ≤ i → search_at b i ≡ b
  unfolding nearest_from
  search_end b i h = ap (λ (xs : List Node). nearest_from s b i (map state_in xs)) (drop_of_length-le l h)

  pub search_none : length l ≡ 0 → nearest_of (map state_in l) s ≡ nearest_of [] s
  search_none h =
      let e : length l ≤ 0 = omega arith in
      let none : drop 0 l ≡ [] = drop_of_length-le l e in
      ap (λ (xs : List Node). nearest_of (map state_in xs) s) none

-- the root is tested once more, against itself
pub search_first : (l : List Node) (s : State) (d : Node) → 0 < length l → nearest_of (map state_in l) s ≡ search_at l s (record { index = 0; far = distance_of (get_or l 0 d).state s }) 0
unfolding nearest_of nearest_from
search_first [] s d h = absurd (none h)
  where
    none : 0 < 0 → ⊥
    none h = omega arith
search_first (x ∷ xs) s d h =
    let far = distance_of x.state s in
    let root : Near = record { index = 0; far = far } in
    sym (ap (λ (t : Bool). nearest_from s (cond t root root) 1 (map state_in xs)) (self far (distance_good x.state s)))
