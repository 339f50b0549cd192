-- A number's bits. Every NaN is written as one pattern: the sign clear, and of the fraction the highest bit alone.
use Rattle.std.specs.Prelude.{ℕ, cond, Float}
use Rattle.std.specs.Float.{binary64}
use Rattle.std.specs.Float.Ieee.{is_nan, to_bits}

unfoldable pub bits_of : Float → ℕ
bits_of x = cond (is_nan x) 0x7ff8_0000_0000_0000 (to_bits binary64 x)
