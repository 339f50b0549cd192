-- Lower-case hexadecimal digits: `0` to `9` are the bytes 48 to 57, and `a` to `f` the bytes 97 to 102.
use Rattle.std.specs.Prelude.{ℕ, ◌-◌, ◌&&◌, cond, leb, Option, Some, None}

unfoldable pub hex_of : ℕ → Option ℕ
hex_of byte =
    cond (leb 48 byte && leb byte 57) (Some (byte - 48))
    (cond (leb 97 byte && leb byte 102) (Some (byte - 87)) None)
