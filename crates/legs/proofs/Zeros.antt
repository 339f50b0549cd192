-- The lowest set bit of a word: the zeros below it, and where it stands.
use Prim.Native.Nat.{ℕ, zero, suc, ◌+◌, ◌*◌, ◌/◌, ◌%◌, ◌^◌, ◌≤◌, ◌<◌}
use mathlib.Core.Bool.{true, false}
use mathlib.Core.Path.{◌≡◌, refl, ◌∙◌}
use native.Mathlib.Omega.{arith}
use native.Mathlib.Nat.{pow-succ', div-one, div-div-eq-div-mul, zero-div, not-suc-le-zero}
use lib.Count.{count_trailing_zeros, under}
use lib.Pow.{shr-shr}
use lib.Dec.{eqb}
use Rattle.legs.specs.Bits.{bit_of}
use Rattle.legs.proofs.Square.{no_digit}

first_bit : (n r : ℕ) → n % 2 ≡ r → bit_of n 0 ≡ eqb r 1
unfolding bit_of
first_bit n r e = rw (div-one n, e)

pub next_bit : (n k : ℕ) → bit_of n (suc k) ≡ bit_of (n / 2) k
unfolding bit_of
next_bit n k = rw (pow-succ' 2 k, div-div-eq-div-mul n 2 (2 ^ k))

low_one :
    (d n k r : ℕ) → n % 2 ≡ r → r < 2 → ((k : ℕ) → k < count_trailing_zeros d (n / 2) → bit_of (n / 2) k ≡ false) →
    k < under r (count_trailing_zeros d (n / 2)) → bit_of n k ≡ false
low_one d n zero zero e h ih l = first_bit n 0 e
low_one d n (suc k) zero e h ih l = next_bit n k ∙ ih k (omega arith)
low_one d n k (suc zero) e h ih l = absurd (not-suc-le-zero l)
low_one d n k (suc (suc r)) e h ih l = absurd (no_digit r h)

pub tz_low : (d n k : ℕ) → k < count_trailing_zeros d n → bit_of n k ≡ false
unfolding count_trailing_zeros
tz_low zero n k l = absurd (not-suc-le-zero l)
tz_low (suc d) n k l = low_one d n k (n % 2) refl (omega arith) (tz_low d (n / 2)) l

bit_one : (d n r : ℕ) → n % 2 ≡ r → r < 2 → (r ≡ 0 → bit_of (n / 2) (count_trailing_zeros d (n / 2)) ≡ true) → bit_of n (under r (count_trailing_zeros d (n / 2))) ≡ true
bit_one d n zero e h ih = next_bit n (count_trailing_zeros d (n / 2)) ∙ ih refl
bit_one d n (suc zero) e h ih = first_bit n 1 e
bit_one d n (suc (suc r)) e h ih = absurd (no_digit r h)

none_below : (n : ℕ) → 0 < n → n < 1 → ⊥
none_below n a b = omega arith

pub tz_bit : (d n : ℕ) → 0 < n → n < 2 ^ d → bit_of n (count_trailing_zeros d n) ≡ true
unfolding count_trailing_zeros
tz_bit zero n a b = absurd (none_below n a b)
tz_bit (suc d) n a b =
    let e : 2 ^ suc d ≡ 2 * 2 ^ d = pow-succ' 2 d in
    bit_one d n (n % 2) refl (omega arith) (λ z. tz_bit d (n / 2) (omega arith) (omega arith))

lt_one : (d e n r : ℕ) → n % 2 ≡ r → (r ≡ 0 → count_trailing_zeros d (n / 2) < e) → under r (count_trailing_zeros d (n / 2)) < suc e
lt_one d e n zero p ih = omega (arith, ih refl)
lt_one d e n (suc r) p ih = omega arith

pub tz_lt : (d e n : ℕ) → 0 < n → n < 2 ^ e → e ≤ d → count_trailing_zeros d n < e
unfolding count_trailing_zeros
tz_lt d zero n a b h = absurd (none_below n a b)
tz_lt zero (suc e) n a b h = absurd (not-suc-le-zero h)
tz_lt (suc d) (suc e) n a b h =
    let p : 2 ^ suc e ≡ 2 * 2 ^ e = pow-succ' 2 e in
    lt_one d e n (n % 2) refl (λ z. tz_lt d e (n / 2) (omega arith) (omega arith) (omega arith))

pub no_bits : (k : ℕ) → bit_of 0 k ≡ false
unfolding bit_of
no_bits k = rw (zero-div (2 ^ k))

-- a bit of a word shifted
pub shifted_bit : (n k j : ℕ) → bit_of (n / 2 ^ k) j ≡ bit_of n (k + j)
unfolding bit_of
shifted_bit n k j = rw (shr-shr n k j)
