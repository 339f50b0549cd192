-- Document 01, "Adding a keep-out", against "PRM construction". A construction that is done under ks, pruned by one keep-out more, is the
-- construction afresh from the same samples under the longer list, which is done too (`one_keep_out_more`). So for any further
-- keep-outs, one by one (`demand_3`).
use Prim.Native.Nat.{◌≤◌}
use mathlib.Core.Bool.{Bool, not}
use mathlib.Core.List.{List, [], ◌∷◌, ◌++◌, append-nil, append_assoc}
use mathlib.Core.Path.{◌≡◌, refl, sym, ◌∙◌, ap, ap₂, fun_ext}
use native.Mathlib.Omega.{arith}
use lib.ListN.{length}
use lib.Ieee.{Float}
use Rattle.answer.specs.declared.Answer.TheVariants.{Done}
use Rattle.state.specs.declared.State.{State}
use Rattle.fields.specs.declared.Limits.{Limits}
use Rattle.keep_out.specs.Covers.{covers_of}
use Rattle.keep_out.specs.declared.KeepOut.{KeepOut}
use Rattle.motion.specs.Valid.{valid_of}
use Rattle.roadmap.specs.Keep.{keep_of}
use Rattle.roadmap.specs.Map.{Milestone}
use Rattle.roadmap.specs.Closed.{roadmap_of}
use Rattle.construct.specs.Construct.{Constructed, joined_of, construct_of}
use Rattle.construct.proofs.Closed.{closed, done_fits}
use Rattle.prune.specs.Hit.{hit_of}
use Rattle.prune.specs.Prune.{pruned_of, pruned_by_all}
use Rattle.prune.proofs.Keep.{keep_keep, fewer}
use Rattle.prune.proofs.More.{valid_more, joined_more}
use Rattle.prune.proofs.Afresh.{leaves_closed}

module _ (limits : Limits) (segment radius : Float) (samples : List State) where
  -- the construction from the samples, on an empty roadmap
  abbrev pub construction : List KeepOut → Constructed
  construction ks = construct_of limits segment ks radius [] samples

  abbrev valids : List KeepOut → List State
  valids ks = keep_of (valid_of limits ks) samples

  abbrev closed_form : List KeepOut → List Milestone
  closed_form ks = roadmap_of (joined_of limits segment ks radius) (valids ks)

  module _ (ks : List KeepOut) (k : KeepOut) where
    abbrev longer : List KeepOut
    longer = ks ++ (k ∷ [])

    -- of the valid samples those that k does not cover are valid under the longer list
    valids_more : keep_of (λ (s : State). not (covers_of k s)) (valids ks) ≡ valids longer
    valids_more =
        keep_keep (valid_of limits ks) (λ (s : State). not (covers_of k s)) samples
        ∙ ap (λ (f : State → Bool). keep_of f samples) (sym (fun_ext (valid_more k limits ks)))

    valids_fewer : length (valids longer) ≤ length (valids ks)
    valids_fewer = omega (arith, ap length valids_more, fewer (λ (s : State). not (covers_of k s)) (valids ks))

    closed_more : pruned_of segment k (closed_form ks) ≡ closed_form longer
    unfolding pruned_of
    closed_more =
        leaves_closed (joined_of limits segment ks radius) (covers_of k) (hit_of segment k) (valids ks)
        ∙ ap₂ roadmap_of (sym (fun_ext (λ new. fun_ext (joined_more k limits ks segment radius new)))) valids_more

    -- one keep-out more: done again, and the same roadmap
    pub one_keep_out_more :
        (construction ks).answer ≡ Done →
        ((construction (ks ++ (k ∷ []))).answer ≡ Done) × (pruned_of segment k (construction ks).map ≡ (construction (ks ++ (k ∷ []))).map)
    one_keep_out_more done =
        let room = done_fits limits segment ks radius samples done in
        let before = closed limits segment ks radius samples room in
        let after = closed limits segment longer radius samples (omega (arith, room, valids_fewer)) in (
          ap (λ (c : Constructed). c.answer) after,
          ap (λ (c : Constructed). pruned_of segment k c.map) before ∙ closed_more ∙ sym (ap (λ (c : Constructed). c.map) after),
        )

  -- Demand 3: any further keep-outs, one by one
  pub demand_3 :
      (ks further : List KeepOut) → (construction ks).answer ≡ Done →
      ((construction (ks ++ further)).answer ≡ Done) × (pruned_by_all segment further (construction ks).map ≡ (construction (ks ++ further)).map)
  unfolding pruned_by_all
  demand_3 ks [] done = rw (append-nil ks) (done, refl)
  demand_3 ks (k ∷ further) done =
      let e : ks ++ (k ∷ []) ++ further ≡ ks ++ (k ∷ further) = append_assoc ks (k ∷ []) further in
      let one = one_keep_out_more ks k done in
      let rest = demand_3 (ks ++ (k ∷ [])) further one.0 in
      rw (← e) (rest.0, ap (pruned_by_all segment further) one.1 ∙ rest.1)
