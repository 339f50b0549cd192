-- Document 01, "The mount": which numbers are taken. A comparison with a NaN is false, so what lies between two numbers is finite.
use Rattle.std.specs.Prelude.{Bool, ◌&&◌, Float}
use Rattle.std.specs.Float.{binary64}
use Rattle.std.specs.Float.Ieee.{le, of_bits}
use Rattle.state.specs.declared.State.{State}

-- -1,024 and 1,024, the range of a coordinate (`constants_are` in the crate examples computes what these bits are)
abbrev pub lowest : Float
lowest = of_bits binary64 0xc090_0000_0000_0000

abbrev pub highest : Float
highest = of_bits binary64 0x4090_0000_0000_0000

-- from low to high, ends included
unfoldable pub inside_of : Float → Float → Float → Bool
inside_of low high x = le low x && le x high

-- an input coordinate is accepted if finite and from -1,024 to 1,024
unfoldable pub coordinate_of : Float → Bool
coordinate_of x = inside_of lowest highest x

unfoldable pub good_state : State → Bool
good_state s = coordinate_of s.az && coordinate_of s.el && coordinate_of s.feed

-- each axis within low and high, ends included
unfoldable pub within_of : State → State → State → Bool
within_of low high s =
    inside_of low.az high.az s.az && inside_of low.el high.el s.el && inside_of low.feed high.feed s.feed

-- low at most high, on each axis
unfoldable pub at_most_of : State → State → Bool
at_most_of low high = le low.az high.az && le low.el high.el && le low.feed high.feed

-- lows and highs obey the coordinate range, low at most high
unfoldable pub good_span : State → State → Bool
good_span low high = good_state low && good_state high && at_most_of low high
