-- The roadmap that a table holds, as a list.
use Rattle.std.specs.Prelude.{ℕ, zero, suc, ◌+◌, ◌<◌, ◌≤◌, min, Bool, false, ◌&&◌, ◌||◌, List, [], ◌∷◌, ◌≡◌, eqb, ltb, length, set, replicate}
use Rattle.std.specs.Float.{binary64}
use Rattle.std.specs.Float.Ieee.{of_bits}
use Rattle.state.specs.Rows.{state_at}
use Rattle.state.specs.declared.State.{State}
use Rattle.legs.specs.Bits.{leg_at}
use Rattle.roadmap.specs.declared.Roadmap.{Roadmap}
use Rattle.roadmap.specs.Map.{Milestone}

-- f at i, i + 1, .., n of them
unfoldable pub span_of : {A : Type 0} → ℕ → ℕ → (ℕ → A) → List A
span_of i zero f = []
span_of i (suc n) f = f i ∷ span_of (i + 1) n f

-- the first n milestones of a table of states and a square of legs
unfoldable pub view_of : List State → List ℕ → ℕ → List Milestone
view_of states legs n = span_of 0 n (λ (i : ℕ). record { at = state_at states i; legs = span_of 0 n (λ (j : ℕ). leg_at legs i j) })

-- as many as the count says, at most the 256 of the table
unfoldable pub milestones_of : Roadmap → List Milestone
milestones_of m = view_of m.milestones m.legs (min m.count 256)

-- the table without a milestone
unfoldable pub empty_of : Roadmap
empty_of =
    let zero = of_bits binary64 0 in
    record { milestones = replicate 256 (record { az = zero; el = zero; feed = zero }); legs = replicate 1024 0; count = 0 }

-- the table with a state more in the next place, and the legs as they are
unfoldable pub pushed_of : Roadmap → State → Roadmap
pushed_of m s = record { milestones = set m.milestones m.count s; legs = m.legs; count = m.count + 1 }

-- no leg beyond the first n
pub record Clean (legs : List ℕ) (n : ℕ) : Type 0 where
  pub row : (a b : ℕ) → a < 256 → b < 256 → n ≤ a → leg_at legs a b ≡ false
  pub column : (a b : ℕ) → a < 256 → b < 256 → n ≤ b → leg_at legs a b ≡ false

-- of two squares: now has what old has, and the legs from n to the first j of those that f names, both ways
pub record Joins (old : List ℕ) (n j : ℕ) (f : ℕ → Bool) (now : List ℕ) : Type 0 where
  pub long : length now ≡ length old
  pub is : (a b : ℕ) → a < 256 → b < 256 → leg_at now a b ≡ leg_at old a b || (eqb a n && (ltb b j && f b)) || (eqb b n && (ltb a j && f a))
