-- Document 01, "The mount", Distance. Begin at +0.0; for each axis in order take the difference first minus second, negated if below
-- zero; it replaces the running number only if strictly larger.
use Rattle.std.specs.Prelude.{cond, Float}
use Rattle.std.specs.Float.{binary64}
use Rattle.std.specs.Float.Ieee.{sub, neg, lt, of_bits}
use Rattle.state.specs.declared.State.{State}

-- the difference first minus second, negated if below zero
unfoldable pub apart_of : Float → Float → Float
apart_of first second =
    let d = sub binary64 first second in
    cond (lt d (of_bits binary64 0)) (neg d) d

-- d replaces the running number only if strictly larger
unfoldable pub wider_of : Float → Float → Float
wider_of running d = cond (lt running d) d running

unfoldable pub distance_of : State → State → Float
distance_of a b =
    let begun = of_bits binary64 0 in
    let az = wider_of begun (apart_of a.az b.az) in
    let el = wider_of az (apart_of a.el b.el) in
    wider_of el (apart_of a.feed b.feed)
