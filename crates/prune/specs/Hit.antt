-- Document 01, "Adding a keep-out", over the checked points of "Motion check": which motions a keep-out hits. The from state is never tested.
use Rattle.std.specs.Prelude.{ℕ, ◌<◌, Bool, true, false, cond, List, [], ◌∷◌, ◌≡◌, length, get_or, Float}
use Rattle.state.specs.declared.State.{State}
use Rattle.keep_out.specs.Covers.{covers_of}
use Rattle.keep_out.specs.declared.KeepOut.{KeepOut}
use Rattle.motion.specs.Points.{Checked, too_many, points, checked_of}

-- the keep-out covers one of the points
unfoldable pub meets_of : KeepOut → List State → Bool
meets_of k [] = false
meets_of k (s ∷ ss) =
    let later = meets_of k ss in
    cond (covers_of k s) true later

-- with too many there is none to cover
unfoldable pub hit_among : KeepOut → Checked → Bool
hit_among k too_many = false
hit_among k (points ss) = meets_of k ss

-- the keep-out covers one of the checked points of the motion
unfoldable pub hit_of : Float → KeepOut → State → State → Bool
hit_of segment k from to = hit_among k (checked_of segment from to)

-- one of the checked points, the p-th, and that the keep-out covers it
pub record CoversPoint (k : KeepOut) (checked : Checked) : Type 0 where
  pub tested : List State
  pub are : checked ≡ points tested
  pub p : ℕ
  pub within : p < length tested
  pub covers : (d : State) → covers_of k (get_or tested p d) ≡ true
