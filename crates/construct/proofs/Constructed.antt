-- What a construction that is done has made, by numbers: its milestones are the valid samples in order, and a leg stands between i and an
-- earlier j exactly if distance(i, j) is strictly below the radius and the motion i to j is accepted. So milestones and keep-outs alone
-- say what the roadmap is (`by_milestones`).
use Prim.Native.Nat.{ℕ, ◌<◌}
use mathlib.Core.Bool.{Bool, false, ◌&&◌}
use mathlib.Core.List.{List, [], map}
use mathlib.Core.Path.{◌≡◌, sym, ◌∙◌, ap}
use native.Mathlib.Omega.{arith}
use lib.ListN.{length, get_or}
use lib.Ieee.{Float, nan, lt}
use Rattle.answer.specs.declared.Answer.TheVariants.{Done}
use Rattle.state.specs.Distance.{distance_of}
use Rattle.state.specs.declared.State.{State}
use Rattle.fields.specs.declared.Limits.{Limits}
use Rattle.keep_out.specs.declared.KeepOut.{KeepOut}
use Rattle.motion.specs.Valid.{valid_of}
use Rattle.motion.specs.Accepts.{accepts_of}
use Rattle.roadmap.specs.Keep.{keep_of}
use Rattle.roadmap.specs.Map.{Milestone, milestone_at, leg_of}
use Rattle.roadmap.specs.Closed.{roadmap_of}
use Rattle.construct.specs.Construct.{Constructed, joined_of, construct_of}
use Rattle.roadmap.proofs.Rows.{roadmap_long}
use Rattle.construct.proofs.Closed.{closed, done_fits}
use Rattle.roadmap.proofs.Between.{row_is, leg_is, leg_back, leg_self, milestones_are}

module _ (limits : Limits) (segment : Float) (ks : List KeepOut) (radius : Float) (samples : List State)
    (done : (construct_of limits segment ks radius [] samples).answer ≡ Done) where
  abbrev joins : State → State → Bool
  joins = joined_of limits segment ks radius

  abbrev made : List Milestone
  made = (construct_of limits segment ks radius [] samples).map

  abbrev valids : List State
  valids = keep_of (valid_of limits ks) samples

  pub map_is : made ≡ roadmap_of joins valids
  map_is = ap (λ (r : Constructed). r.map) (closed limits segment ks radius samples (done_fits limits segment ks radius samples done))

  abbrev none : State
  none = record { az = nan; el = nan; feed = nan }

  -- the milestones are the valid samples, in order
  pub milestones : map (λ (m : Milestone). m.at) made ≡ valids
  milestones = ap (map (λ (m : Milestone). m.at)) map_is ∙ milestones_are joins none valids

  pub by_milestones : made ≡ roadmap_of joins (map (λ (m : Milestone). m.at) made)
  by_milestones = map_is ∙ ap (roadmap_of joins) (sym milestones)

  many : length made ≡ length valids
  many = ap length map_is ∙ roadmap_long joins valids

  state_is : (i : ℕ) → i < length made → (milestone_at made i).at ≡ get_or valids i none
  state_is i h = ap (λ (ms : List Milestone). (milestone_at ms i).at) map_is ∙ ap (λ (m : Milestone). m.at) (row_is joins none valids i (omega (arith, many)))

  -- a leg between i and an earlier j
  pub leg_stands :
      (i j : ℕ) → j < i → i < length made →
      leg_of made i j
      ≡ (lt (distance_of (milestone_at made i).at (milestone_at made j).at) radius && accepts_of limits segment ks (milestone_at made i).at (milestone_at made j).at)
  leg_stands i j h l =
      let e = state_is i l in
      let f = state_is j (omega arith) in
      ap (λ (ms : List Milestone). leg_of ms i j) map_is ∙ leg_is joins none valids i (omega (arith, many)) j h
      ∙ (unfold joined_of in rw (e, f))

  -- it is the same seen from the earlier
  pub leg_both : (i j : ℕ) → j < i → i < length made → leg_of made j i ≡ leg_of made i j
  leg_both i j h l =
      ap (λ (ms : List Milestone). leg_of ms j i) map_is ∙ leg_back joins none valids j (omega (arith, many)) i h (omega (arith, many))
      ∙ sym (ap (λ (ms : List Milestone). leg_of ms i j) map_is ∙ leg_is joins none valids i (omega (arith, many)) j h)

  -- none joins a milestone to itself
  pub leg_none : (i : ℕ) → i < length made → leg_of made i i ≡ false
  leg_none i l = ap (λ (ms : List Milestone). leg_of ms i i) map_is ∙ leg_self joins none valids i (omega (arith, many))
