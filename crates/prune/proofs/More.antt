-- One keep-out more, of any kind: validity, the motion check and a leg under the longer list, by what they were and what the new one does.
use mathlib.Core.Bool.{Bool, true, false, not, ◌&&◌, ◌||◌, cond, or-false, or_assoc, and_assoc}
use mathlib.Core.List.{List, [], ◌∷◌, ◌++◌}
use mathlib.Core.Path.{◌≡◌, refl, sym}
use lib.Ieee.{Float, lt}
use Rattle.state.specs.Distance.{distance_of}
use Rattle.state.specs.Ranges.{within_of}
use Rattle.state.specs.declared.State.{State}
use Rattle.fields.specs.declared.Limits.{Limits}
use Rattle.keep_out.specs.Covers.{covers_of, covered_of}
use Rattle.keep_out.specs.declared.KeepOut.{KeepOut}
use Rattle.motion.specs.Valid.{valid_of}
use Rattle.motion.specs.Points.{Checked, too_many, points, checked_of}
use Rattle.motion.specs.Accepts.{all_valid, accepted_of, accepts_of}
use Rattle.construct.specs.Construct.{joined_of}
use Rattle.prune.specs.Hit.{meets_of, hit_among, hit_of}

valid_split : (w c k : Bool) → w && not (c || k) ≡ (w && not c) && not k
valid_split true true k = refl
valid_split true false k = refl
valid_split false c k = refl

walk_split : (v c later met : Bool) → cond (v && not c) (later && not met) false ≡ cond v later false && not (cond c true met)
walk_split true true true met = refl
walk_split true true false met = refl
walk_split true false later met = refl
walk_split false c later met = refl

module _ (k : KeepOut) where
  covered_more : (ks : List KeepOut) (s : State) → covered_of (ks ++ (k ∷ [])) s ≡ covered_of ks s || covers_of k s
  unfolding covered_of
  covered_more [] s = or-false (covers_of k s)
  covered_more (x ∷ ks) s = rw (covered_more ks s) (sym (or_assoc (covers_of x s) (covered_of ks s) (covers_of k s)))

  module _ (limits : Limits) (ks : List KeepOut) where
    -- valid under one more is valid, and not covered by it
    pub valid_more : (s : State) → valid_of limits (ks ++ (k ∷ [])) s ≡ (valid_of limits ks s && not (covers_of k s))
    unfolding valid_of
    valid_more s = rw (covered_more ks s) (valid_split (within_of limits.low limits.high s) (covered_of ks s) (covers_of k s))

    all_more : (ss : List State) → all_valid limits (ks ++ (k ∷ [])) ss ≡ (all_valid limits ks ss && not (meets_of k ss))
    unfolding all_valid meets_of
    all_more [] = refl
    all_more (s ∷ ss) = rw (valid_more s, all_more ss) (walk_split (valid_of limits ks s) (covers_of k s) (all_valid limits ks ss) (meets_of k ss))

    accepted_more : (c : Checked) → accepted_of limits (ks ++ (k ∷ [])) c ≡ (accepted_of limits ks c && not (hit_among k c))
    unfolding accepted_of hit_among
    accepted_more too_many = refl
    accepted_more (points ss) = all_more ss

    module _ (segment : Float) where
      -- accepted under one more is accepted, and not hit by it
      pub accepts_more : (from to : State) → accepts_of limits segment (ks ++ (k ∷ [])) from to ≡ (accepts_of limits segment ks from to && not (hit_of segment k from to))
      unfolding accepts_of hit_of
      accepts_more from to = accepted_more (checked_of segment from to)

      -- joined under one more is joined, and not hit by it
      pub joined_more : (radius : Float) (new earlier : State) → joined_of limits segment (ks ++ (k ∷ [])) radius new earlier ≡ (joined_of limits segment ks radius new earlier && not (hit_of segment k new earlier))
      unfolding joined_of
      joined_more radius new earlier =
          rw (accepts_more new earlier) (sym (and_assoc (lt (distance_of new earlier) radius) (accepts_of limits segment ks new earlier) (not (hit_of segment k new earlier))))
