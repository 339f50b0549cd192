-- Laws of the square of bits: what setting one bit of a word does to each bit of the square.
use Prim.Native.Nat.{ℕ, zero, suc, ◌+◌, ◌*◌, ◌/◌, ◌%◌, ◌^◌, ◌<◌, max}
use mathlib.Core.Bool.{Bool, false, ◌&&◌, ◌||◌, or-false, and-false}
use mathlib.Core.List.{List}
use mathlib.Core.Path.{◌≡◌, refl, sym, ◌∙◌, ap}
use native.Mathlib.Omega.{arith}
use native.Mathlib.Decide.{ℕ_discrete}
use native.Mathlib.Nat.{div-eq_of_lt, mul-div-mul_left, pow-succ', div-one, zero-div}
use borrow.Author.Tests.{eq-eqb, ne_eqb}
use lib.Bits.{bit_or, or_shr, or_step}
use lib.Pow.{pow_pos, shl_exact}
use lib.Dec.{eqb, eqb-suc-suc}
use lib.ListN.{length, get_or, set, replicate}
use lib.Seq.{get_or-set_same, get_or-set_other}
use Rattle.legs.specs.Bits.{bit_of, leg_at}

-- the one bit of a power of 2
pub power_bit : (k j : ℕ) → bit_of (2 ^ k) j ≡ eqb j k
unfolding bit_of
power_bit zero zero = refl
power_bit zero (suc j) =
    let p : 1 < 2 ^ suc j = rw (pow-succ' 2 j) (omega (arith, pow_pos j)) in
    rw (div-eq_of_lt p) (sym (ne_eqb (suc j) 0 (λ z. omega arith)))
power_bit (suc k) zero =
    let e : 2 ^ suc k / 1 % 2 ≡ 0 = rw (div-one (2 ^ suc k), pow-succ' 2 k) (omega arith) in
    rw e (sym (ne_eqb 0 (suc k) (λ z. omega arith)))
power_bit (suc k) (suc j) = rw (pow-succ' 2 k, pow-succ' 2 j, mul-div-mul_left {m = 2} (2 ^ k) (2 ^ j) (omega arith)) (power_bit k j ∙ sym (eqb-suc-suc j k))

pub odd_or : (x y : ℕ) → bit_or x y % 2 ≡ max (x % 2) (y % 2)
odd_or x y = omega (arith, or_step x y)

pub no_digit : (p : ℕ) → suc (suc p) < 2 → ⊥
no_digit p h = omega arith

either : (x y : ℕ) → x < 2 → y < 2 → eqb (max x y) 1 ≡ eqb x 1 || eqb y 1
either zero zero p q = refl
either zero (suc zero) p q = refl
either zero (suc (suc y)) p q = absurd (no_digit y q)
either (suc zero) zero p q = refl
either (suc zero) (suc zero) p q = refl
either (suc zero) (suc (suc y)) p q = absurd (no_digit y q)
either (suc (suc x)) y p q = absurd (no_digit x p)

pub or_bit : (w v j : ℕ) → bit_of (bit_or w v) j ≡ bit_of w j || bit_of v j
unfolding bit_of
or_bit w v j = rw (or_shr w v j, odd_or (w / 2 ^ j) (v / 2 ^ j)) (either (w / 2 ^ j % 2) (v / 2 ^ j % 2) (omega arith) (omega arith))

pub with_bit : (w k j : ℕ) → k < 64 → bit_of (bit_or w ((1 * 2 ^ k) % 18446744073709551616)) j ≡ bit_of w j || eqb j k
with_bit w k j h =
    let e : (1 * 2 ^ k) % 18446744073709551616 ≡ 1 * 2 ^ k = shl_exact {a = 1} 1 k 64 (omega arith) (omega arith) in
    let f : 1 * 2 ^ k ≡ 2 ^ k = omega arith in
    rw (e, f) (or_bit w (2 ^ k) j ∙ ap (λ (b : Bool). bit_of w j || b) (power_bit k j))

-- the same pair
pair_not : (a i b j : ℕ) → (a ≡ i → b ≡ j → ⊥) → eqb a i && eqb b j ≡ false
pair_not a i b j h = elim (ℕ_discrete a i) [ yes p ↦ rw (ne_eqb b j (h p)) (and-false (eqb a i)) | no p ↦ rw (ne_eqb a i p) ]

pair_low : (a i b j : ℕ) → a ≡ i → b / 64 ≡ j / 64 → eqb (b % 64) (j % 64) ≡ eqb a i && eqb b j
pair_low a i b j p q =
    elim (ℕ_discrete b j) [
      | yes e ↦ rw (eq-eqb a i p, eq-eqb b j e, eq-eqb (b % 64) (j % 64) (ap (λ (x : ℕ). x % 64) e))
      | no e ↦ rw (eq-eqb a i p, ne_eqb b j e, ne_eqb (b % 64) (j % 64) (λ z. e (omega arith)))
    ]

module _ (words : List ℕ) (i j : ℕ) (inside : 4 * i + j / 64 < length words) (hj : j < 256) where
  -- the place of the word that changes, and the word as it is then
  abbrev place : ℕ
  place = 4 * i + j / 64

  abbrev changed : ℕ
  changed = bit_or (get_or words place 0) ((1 * 2 ^ (j % 64)) % 18446744073709551616)

  abbrev marked : List ℕ
  marked = set words place changed

  same : (a b : ℕ) → b < 256 → 4 * a + b / 64 ≡ 4 * i + j / 64 → leg_at marked a b ≡ leg_at words a b || (eqb a i && eqb b j)
  unfolding leg_at
  same a b hb e =
      let here = get_or-set_same words place changed 0 (omega arith) in
      rw (e, here, with_bit (get_or words place 0) (j % 64) (b % 64) (omega arith), pair_low a i b j (omega arith) (omega arith))

  other : (a b : ℕ) → (4 * a + b / 64 ≡ 4 * i + j / 64 → ⊥) → leg_at marked a b ≡ leg_at words a b || (eqb a i && eqb b j)
  unfolding leg_at
  other a b e =
      rw (get_or-set_other words place (4 * a + b / 64) changed 0 e, pair_not a i b j (λ p q. e (rw (p, q))))
      (sym (or-false (bit_of (get_or words (4 * a + b / 64) 0) (b % 64))))

  pub mark_is : (a b : ℕ) → b < 256 → leg_at marked a b ≡ leg_at words a b || (eqb a i && eqb b j)
  mark_is a b hb = elim (ℕ_discrete (4 * a + b / 64) (4 * i + j / 64)) [ yes e ↦ same a b hb e | no e ↦ other a b e ]

-- a cleared square
zeros : (k i : ℕ) → ◌≡◌ {A = ℕ} (get_or (replicate k 0) i 0) 0
zeros zero i = refl
zeros (suc k) zero = refl
zeros (suc k) (suc i) = zeros k i

pub cleared : (k a b : ℕ) → leg_at (replicate k 0) a b ≡ false
unfolding leg_at bit_of
cleared k a b = rw (zeros k (4 * a + b / 64), zero-div (2 ^ (b % 64)))
