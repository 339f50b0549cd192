-- Document 01, "The mount", Keep-outs: which states one covers.
use Rattle.std.specs.Prelude.{Bool, List, Float}
use Rattle.std.specs.List.{list_any}
use Rattle.std.specs.Float.{binary64}
use Rattle.std.specs.Float.Ieee.{add, sub, mul, lt, le}
use Rattle.state.specs.Ranges.{within_of}
use Rattle.state.specs.declared.State.{State}
use Rattle.keep_out.specs.declared.KeepOut.{KeepOut}
use Rattle.keep_out.specs.declared.KeepOut.TheVariants.{Box, Disc, Floor}

-- dx * dx + dy * dy, each operation rounded
abbrev pub squares_of : Float → Float → Float
squares_of dx dy = add binary64 (mul binary64 dx dx) (mul binary64 dy dy)

-- A box: faces belong to it. A disc: dx * dx + dy * dy is at most r * r; dx and dy are state minus centre. A floor: elevation strictly below it.
unfoldable pub covers_of : KeepOut → State → Bool
covers_of (Box low high) s = within_of low high s
covers_of (Disc az el r) s = le (squares_of (sub binary64 s.az az) (sub binary64 s.el el)) (mul binary64 r r)
covers_of (Floor el) s = lt s.el el

-- one of the keep-outs covers the state
unfoldable pub covered_of : List KeepOut → State → Bool
covered_of ks s = list_any (λ k. covers_of k s) ks
