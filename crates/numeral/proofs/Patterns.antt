-- Which bit patterns are a NaN's.
use mathlib.Core.Bool.{true}
use mathlib.Core.Path.{◌≡◌, refl, sym, ◌∙◌, subst}
use Prim.Native.Nat.{ℕ, ◌%◌, ◌<◌}
use borrow.Author.Tests.{lt-ltb}
use lib.Dec.{T}
use lib.Ieee.{Float, nan, inf, fin, binary64, is_nan, of_bits}
use lib.Ieee.Bits.{nan_bits_is, nan_bits_above}

only_nan : (x : Float) → is_nan x ≡ true → x ≡ nan
unfolding is_nan
only_nan nan e = refl
only_nan (inf s) e = absurd (subst T (sym e) tt)
only_nan (fin s m d) e = absurd (subst T (sym e) tt)

-- with the sign's bit taken off, a NaN's pattern is above that of infinity
pub above_is_nan : (bits : ℕ) → 9218868437227405312 < bits % 9223372036854775808 → of_bits binary64 bits ≡ nan
above_is_nan bits h = only_nan (of_bits binary64 bits) (sym (nan_bits_is binary64 bits) ∙ nan_bits_above binary64 bits ∙ lt-ltb _ _ h)
