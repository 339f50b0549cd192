-- The bits that the definitions write for document 01's decimals: one table. The one statement on it, that each is the nearest float, is in
-- proofs/Constants.antt.
use Rattle.std.specs.Prelude.{Bool, true, ◌&&◌, List, [], ◌∷◌, Float}
use Rattle.state.specs.Ranges as state
use Rattle.fields.specs.Ranges as fields
use Rattle.keep_out.specs.Good as keep_out
use Rattle.motion.specs.Points as motion
use Rattle.examples.specs.Words.{ratio, whole, minus, same}

infix 70 ◌is◌
-- the number of a definition, and the document's
pub data Constant : Type 0 where
  ◌is◌ : Float → Float → Constant

unfoldable pub are_same : List Constant → Bool
are_same [] = true
are_same ((x is y) ∷ cs) = same x y && are_same cs

unfoldable pub constants : List Constant
constants =
    -- an input coordinate is from -1,024 to 1,024
    state.lowest is minus 1024
    ∷ state.highest is whole 1024
    -- segment length, max_distance, search_radius and connection_radius lie from 0.001 to 4,096
    ∷ fields.least_length is ratio 1 1000
    ∷ fields.most_length is whole 4096
    -- a goal's radius is 0 to 4,096
    ∷ fields.least_radius is whole 0
    ∷ fields.most_radius is whole 4096
    -- a disc's radius is 0 to 1,024
    ∷ keep_out.least_radius is whole 0
    ∷ keep_out.most_radius is whole 1024
    -- q = distance(from, to) / (segment length * 0.1)
    ∷ motion.part is ratio 1 10
    -- if q isn't at most 4,096 the motion is not accepted
    ∷ motion.most_points is whole 4096
    ∷ []
