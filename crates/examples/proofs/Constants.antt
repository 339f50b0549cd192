-- Each number that the definitions write in bits is the nearest float to document 01's decimal, by computation.
use Rattle.std.specs.Prelude.{T}
use Rattle.std.specs.Float.Ieee.{round, of_bits, to_bits}
use Rattle.examples.specs.Words.{same}
use Rattle.examples.specs.Constants.{constants, are_same}

pub constants_are : T (are_same constants)
unfolding constants are_same same round of_bits to_bits
constants_are = tt
