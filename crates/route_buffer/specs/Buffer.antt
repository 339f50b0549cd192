-- What stands in a route buffer before a call: at each place the same number, 7.25, so that what a call wrote can be told from what it kept.
use Rattle.std.specs.Prelude.{List, replicate, Float}
use Rattle.std.specs.Float.{binary64}
use Rattle.std.specs.Float.Ieee.{of_bits}

abbrev pub before : Float
before = of_bits binary64 0x401d_0000_0000_0000

unfoldable pub fresh_of : List Float
fresh_of = replicate 4096 before
