-- The words of document 01's "Examples on both sides": its numbers, its states, its mount, and when two answers are the same.
use Rattle.std.specs.Prelude.{ℕ, Bool, true, false, ◌&&◌, List, [], ◌∷◌, eqb, Float}
use Rattle.std.specs.Float.{binary64}
use Rattle.std.specs.Float.Ieee.{round, to_bits}
use Rattle.state.specs.declared.State.{State}
use Rattle.fields.specs.declared.Limits.{Limits}
use Rattle.keep_out.specs.declared.KeepOut.{KeepOut}
use Rattle.keep_out.specs.declared.KeepOut.TheVariants.{Box}

-- a decimal of the document is the nearest float to n / d: 0.75 is `ratio 75 100`
abbrev pub ratio : ℕ → ℕ → Float
ratio n d = round binary64 false n d

abbrev pub whole : ℕ → Float
whole n = ratio n 1

abbrev pub minus : ℕ → Float
minus n = round binary64 true n 1

abbrev pub at : Float → Float → Float → State
at az el feed = record { az = az; el = el; feed = feed }

-- the state (az, 0, 0)
abbrev pub on : Float → State
on az = at az (whole 0) (whole 0)

abbrev pub origin : State
origin = on (whole 0)

-- limits -270..270, 0..90, -90..90
abbrev pub limits : Limits
limits = record { low = at (minus 270) (whole 0) (minus 90); high = at (whole 270) (whole 90) (whole 90) }

-- segment 10, so the unit is 1
abbrev pub segment : Float
segment = whole 10

-- the box (low,0,0)-(high,1,1)
abbrev pub box : Float → Float → KeepOut
box low high = Box (on low) (at high (whole 1) (whole 1))

-- what a lent route buffer holds before a call
abbrev pub unused : Float
unused = ratio 725 100

-- the parent of a root: no node's number
abbrev pub none : ℕ
none = 512

-- the same bits: 0.0 and -0.0 are not the same
unfoldable pub same : Float → Float → Bool
same x y = eqb (to_bits binary64 x) (to_bits binary64 y)

unfoldable pub same_state : State → State → Bool
same_state s t = same s.az t.az && same s.el t.el && same s.feed t.feed

-- two lists, place by place
unfoldable pub same_lists : {A : Type 0} → (A → A → Bool) → List A → List A → Bool
same_lists f [] [] = true
same_lists f (x ∷ xs) (y ∷ ys) = f x y && same_lists f xs ys
same_lists f [] (y ∷ ys) = false
same_lists f (x ∷ xs) [] = false

abbrev pub same_states : List State → List State → Bool
same_states = same_lists same_state

abbrev pub same_numbers : List Float → List Float → Bool
same_numbers = same_lists same

abbrev pub same_indices : List ℕ → List ℕ → Bool
same_indices = same_lists eqb
