-- Document 01, "Adding a keep-out". Milestones now covered go; the rest keep bits and order and are renumbered from 0. A leg between two
-- that stay goes exactly if the keep-out hits it, the motion from the newer to the older. Only the new keep-out is tested, and only
-- against what stands.
use Rattle.std.specs.Prelude.{ℕ, Bool, not, ◌&&◌, cond, List, [], ◌∷◌, ◌++◌, length, take, Float}
use Rattle.state.specs.declared.State.{State}
use Rattle.keep_out.specs.Covers.{covers_of}
use Rattle.keep_out.specs.declared.KeepOut.{KeepOut}
use Rattle.roadmap.specs.Keep.{keep_of}
use Rattle.roadmap.specs.Map.{Milestone, add_of}
use Rattle.prune.specs.Hit.{hit_of}

-- of a milestone's legs to the earlier ones those that stay: the other end is not gone, the leg stands and is not hit
unfoldable pub left_of : (State → Bool) → (State → State → Bool) → State → List State → List Bool → List Bool
left_of gone hit new [] legs = []
left_of gone hit new (e ∷ earlier) [] = []
left_of gone hit new (e ∷ earlier) (leg ∷ legs) =
    let later = left_of gone hit new earlier legs in
    cond (gone e) later ((leg && not (hit new e)) ∷ later)

-- each milestone in turn, after those at `before`: one that is not gone comes after the ones that stay, with what stays of its legs
unfoldable pub leaves_of : (State → Bool) → (State → State → Bool) → List Milestone → List State → List Milestone → List Milestone
leaves_of gone hit kept before [] = kept
leaves_of gone hit kept before (m ∷ ms) =
    let added = add_of kept m.at (left_of gone hit m.at before m.legs) in
    leaves_of gone hit (cond (gone m.at) kept added) (before ++ (m.at ∷ [])) ms

-- what a new keep-out leaves of a roadmap
unfoldable pub pruned_of : Float → KeepOut → List Milestone → List Milestone
pruned_of segment k ms = leaves_of (covers_of k) (hit_of segment k) [] [] ms

-- what further ones leave, one by one
unfoldable pub pruned_by_all : Float → List KeepOut → List Milestone → List Milestone
pruned_by_all segment [] ms = ms
pruned_by_all segment (k ∷ ks) ms = pruned_by_all segment ks (pruned_of segment k ms)

-- the new number of the i-th of the milestones at these states: how many before it stay
unfoldable pub place_of : KeepOut → List State → ℕ → ℕ
place_of k states i = length (keep_of (λ (s : State). not (covers_of k s)) (take i states))
