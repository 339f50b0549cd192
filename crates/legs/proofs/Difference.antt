-- The bits of one word that are not set in another.
use Prim.Native.Nat.{ℕ, zero, suc, ◌/◌, ◌%◌, ◌^◌, ◌<◌, max}
use mathlib.Core.Bool.{not, ◌&&◌}
use mathlib.Core.Path.{◌≡◌, refl}
use native.Mathlib.Omega.{arith}
use lib.Bits.{bit_or, bit_xor, differ, or_shr, xor_shr, xor_step, or_lt, xor_lt}
use lib.Dec.{eqb}
use Rattle.legs.specs.Bits.{bit_of, Without}
use Rattle.legs.proofs.Square.{odd_or, no_digit}

differ_low : (p q : ℕ) → p < 2 → q < 2 → differ p q < 2
differ_low zero q a b = b
differ_low (suc zero) zero a b = a
differ_low (suc zero) (suc zero) a b = omega arith
differ_low (suc zero) (suc (suc q)) a b = absurd (no_digit q b)
differ_low (suc (suc p)) q a b = absurd (no_digit p a)

odd_xor : (x y : ℕ) → bit_xor x y % 2 ≡ differ (x % 2) (y % 2)
odd_xor x y = omega (arith, xor_step x y, differ_low (x % 2) (y % 2) (omega arith) (omega arith))

digit : (p q : ℕ) → p < 2 → q < 2 → eqb (differ (max p q) q) 1 ≡ eqb p 1 && not (eqb q 1)
digit zero zero a b = refl
digit zero (suc zero) a b = refl
digit (suc zero) zero a b = refl
digit (suc zero) (suc zero) a b = refl
digit zero (suc (suc q)) a b = absurd (no_digit q b)
digit (suc zero) (suc (suc q)) a b = absurd (no_digit q b)
digit (suc (suc p)) q a b = absurd (no_digit p a)

without_bit : (x y k : ℕ) → bit_of (bit_xor (bit_or x y) y) k ≡ bit_of x k && not (bit_of y k)
unfolding bit_of
without_bit x y k =
    rw (xor_shr (bit_or x y) y k, or_shr x y k, odd_xor (bit_or (x / 2 ^ k) (y / 2 ^ k)) (y / 2 ^ k), odd_or (x / 2 ^ k) (y / 2 ^ k))
    (digit (x / 2 ^ k % 2) (y / 2 ^ k % 2) (omega arith) (omega arith))

pub without_is : (x y : ℕ) → x < 2 ^ 64 → y < 2 ^ 64 → Without x y (bit_xor (bit_or x y) y)
without_is x y a b = record { is = without_bit x y; small = xor_lt 64 (bit_or x y) y (or_lt 64 x y a b) b }
