-- Demand 3, over the calls' own definitions. A roadmap that an accepted construction built, when empty, from a list of samples; keep-outs added one by
-- one, each accepted, nothing between: the planner is that of the construction afresh from the same list under the longer list of
-- keep-outs (`demand_3`). So milestones, neighbour lists and every query's answer, count and route are (`demand_3_queries`).
use Prim.Native.Nat.{ℕ}
use mathlib.Core.Bool.{true, false}
use mathlib.Core.List.{List, [], ◌∷◌, ◌++◌, append-nil, append_assoc}
use mathlib.Core.Path.{◌≡◌, refl, sym, ◌∙◌, ap, subst}
use borrow.Author.Tests.{eq-eqb}
use lib.Dec.{T, eqb, ltb}
use lib.ListN.{length}
use lib.Ieee.{Float}
use Rattle.laws.specs.Order.{whether}
use Rattle.answer.specs.Number.{number_of}
use Rattle.answer.specs.declared.Answer.TheVariants.{Done, BadInput, Full}
use Rattle.keep_out.specs.Good.{good_keep_out}
use Rattle.keep_out.specs.declared.KeepOut.{KeepOut}
use Rattle.samples.specs.Samples.{good_samples, samples_of}
use Rattle.state.specs.declared.State.{State}
use Rattle.fields.specs.declared.Goal.{Goal}
use Rattle.plan.specs.Plan.{set}
use Rattle.plan.specs.KeepOut.{longer_of}
use Rattle.roadmap.specs.Map.{Milestone}
use Rattle.prune.specs.Prune.{pruned_of}
use Rattle.prune.proofs.Demand as prune
use Rattle.prm.specs.Planner.{Given, View, goals_of}
use Rattle.prm.specs.Construct.{Construction, construct_of}
use Rattle.prm.specs.Query.{query_of}
use Rattle.prm.specs.Adding.{given_under, add_of, added_all, AllAccepted}

-- the number of Done is no other's
differs : (m n : ℕ) → eqb m n ≡ false → m ≡ n → ⊥
differs m n f e = absurd (subst T (sym (eq-eqb m n e) ∙ f) tt)

-- a keep-out that is accepted stands last in the longer list
accepted_longer : (ks : List KeepOut) (k : KeepOut) → (longer_of ks k).answer ≡ Done → (longer_of ks k).keep_outs ≡ ks ++ (k ∷ [])
accepted_longer ks k e =
    whether (good_keep_out k)
    (λ g.
    whether (ltb (length ks) 32) (λ l. unfold longer_of in rw (g, l))
    (λ l. absurd (differs 4 0 refl (ap number_of (sym (full g l) ∙ e)))))
    (λ g. absurd (differs 2 0 refl (ap number_of (sym (bad g) ∙ e))))
  where
    full : good_keep_out k ≡ true → ltb (length ks) 32 ≡ false → (longer_of ks k).answer ≡ Full
    full g l = unfold longer_of in rw (g, l)

    bad : good_keep_out k ≡ false → (longer_of ks k).answer ≡ BadInput
    bad g = unfold longer_of in rw g

-- an accepted keep-out's planner
module _ (g : Given) (ms : List Milestone) (k : KeepOut) where
  answered : (add_of (set g ms) k).answer ≡ (longer_of g.keep_outs k).answer
  unfolding add_of
  answered = whether (eqb (number_of (longer_of g.keep_outs k).answer) 0) (λ e. rw e) (λ e. rw e)

  pub accepted : (add_of (set g ms) k).answer ≡ Done → (add_of (set g ms) k).planner ≡ set (given_under g (g.keep_outs ++ (k ∷ []))) (pruned_of g.segment k ms)
  unfolding add_of
  accepted e =
      let d : (longer_of g.keep_outs k).answer ≡ Done = sym answered ∙ e in
      let z : eqb (number_of (longer_of g.keep_outs k).answer) 0 ≡ true = eq-eqb _ 0 (ap number_of d) in
      rw z (ap (λ (ks : List KeepOut). set (given_under g ks) (pruned_of g.segment k ms)) (accepted_longer g.keep_outs k d))

module _ (g : Given) (samples : List Float) (good : good_samples samples ≡ true) where
  -- a construction when the roadmap is empty, under a list of keep-outs
  abbrev pub afresh : List KeepOut → Construction
  afresh ks = construct_of (set (given_under g ks) []) samples

  abbrev built : List KeepOut → View
  built ks = set (given_under g ks) (prune.construction g.limits g.segment g.radius (samples_of samples) ks).map

  afresh_planner : (ks : List KeepOut) → (afresh ks).planner ≡ built ks
  unfolding construct_of
  afresh_planner ks = rw good

  afresh_answer : (ks : List KeepOut) → (afresh ks).answer ≡ (prune.construction g.limits g.segment g.radius (samples_of samples) ks).answer
  unfolding construct_of
  afresh_answer ks = rw good

  from_built :
      (ks further : List KeepOut) → (prune.construction g.limits g.segment g.radius (samples_of samples) ks).answer ≡ Done → AllAccepted (built ks) further →
      added_all (built ks) further ≡ built (ks ++ further)
  unfolding added_all AllAccepted
  from_built ks [] done all = ap built (sym (append-nil ks))
  from_built ks (k ∷ further) done all =
      let e : ks ++ (k ∷ []) ++ further ≡ ks ++ (k ∷ further) = append_assoc ks (k ∷ []) further in
      let one = prune.one_keep_out_more g.limits g.segment g.radius (samples_of samples) ks k done in
      let step : (add_of (built ks) k).planner ≡ built (ks ++ (k ∷ [])) =
      accepted (given_under g ks) _ k all.0 ∙ ap (λ (ms : List Milestone). set (given_under g (ks ++ (k ∷ []))) ms) one.1 in
      ap (λ (v : View). added_all v further) step
      ∙ from_built (ks ++ (k ∷ [])) further one.0 (subst (λ (v : View). AllAccepted v further) step all.1)
      ∙ ap built e

  -- Demand 3: the planner is that of the construction afresh under the longer list
  pub demand_3 :
      (ks further : List KeepOut) → (afresh ks).answer ≡ Done → AllAccepted (afresh ks).planner further →
      added_all (afresh ks).planner further ≡ (afresh (ks ++ further)).planner
  demand_3 ks further done all =
      ap (λ (v : View). added_all v further) (afresh_planner ks)
      ∙ from_built ks further (sym (afresh_answer ks) ∙ done) (subst (λ (v : View). AllAccepted v further) (afresh_planner ks) all)
      ∙ sym (afresh_planner (ks ++ further))

  -- and so is every query's answer, count and route, from any start to any goal
  pub demand_3_queries :
      (ks further : List KeepOut) → (afresh ks).answer ≡ Done → AllAccepted (afresh ks).planner further → (start : State) (goal : Goal) (route : List Float) →
      query_of (goals_of (added_all (afresh ks).planner further) start goal).planner route ≡ query_of (goals_of (afresh (ks ++ further)).planner start goal).planner route
  demand_3_queries ks further done all start goal route = ap (λ (v : View). query_of (goals_of v start goal).planner route) (demand_3 ks further done all)
