-- A square of 256 by 256 bits in 1,024 words, four to a row.
use Rattle.std.specs.Prelude.{ℕ, ◌+◌, ◌*◌, ◌/◌, ◌%◌, ◌^◌, ◌<◌, Bool, not, ◌&&◌, ◌||◌, List, ◌≡◌, eqb, get_or, length}

-- the bit k of a word
unfoldable pub bit_of : ℕ → ℕ → Bool
bit_of w k = eqb (w / 2 ^ k % 2) 1

-- the bit at the row i and the place j
unfoldable pub leg_at : List ℕ → ℕ → ℕ → Bool
leg_at words i j = bit_of (get_or words (4 * i + j / 64) 0) (j % 64)

-- a bit of the row i that is not among the seen, which are a row of four words
unfoldable pub unseen_at : List ℕ → ℕ → List ℕ → ℕ → Bool
unseen_at words i seen j = leg_at words i j && not (leg_at seen 0 j)

-- of two squares: now has what old has, and the bit (i, j)
pub record Marked (old : List ℕ) (i j : ℕ) (now : List ℕ) : Type 0 where
  pub long : length now ≡ length old
  pub is : (a b : ℕ) → a < 256 → b < 256 → leg_at now a b ≡ leg_at old a b || (eqb a i && eqb b j)

-- of two squares: now has what old has, and the bits (i, j) and (j, i)
pub record Linked (old : List ℕ) (i j : ℕ) (now : List ℕ) : Type 0 where
  pub long : length now ≡ length old
  pub is : (a b : ℕ) → a < 256 → b < 256 → leg_at now a b ≡ leg_at old a b || (eqb a i && eqb b j) || (eqb a j && eqb b i)

-- r has the bits of x that are not set in y
pub record Without (x y r : ℕ) : Type 0 where
  pub is : (k : ℕ) → bit_of r k ≡ bit_of x k && not (bit_of y k)
  pub small : r < 2 ^ 64
