-- One keep_out more: the table's list, and a planner's answer.
use Prim.Native.Nat.{◌+◌, ◌≤◌, ◌<◌, min}
use mathlib.Core.Bool.{Bool, true, false}
use mathlib.Core.List.{List, [], ◌∷◌, ◌++◌}
use mathlib.Core.Path.{◌≡◌, ◌∙◌, ap}
use native.Mathlib.Omega.{arith}
use borrow.Author.Tests.{lt-ltb, le-ltb, ltb-true, ltb-false}
use lib.Dec.{ltb}
use lib.ListN.{length, take, set, length-take}
use Rattle.std.proofs.lemmas.List.{take_more_set, map-append, length-map}
use Rattle.std.specs.Option.{ok_or}
use Rattle.laws.specs.Order.{whether}
use Rattle.answer.specs.declared.Answer.{Answer}
use Rattle.answer.specs.declared.Answer.TheVariants.{Done, Uninitialised, BadInput, Full}
use Rattle.keep_out.specs.Good.{good_keep_out}
use Rattle.keep_out_table.specs.Table.{held_of, keep_outs_of, with_of}
use Rattle.keep_out.specs.declared.KeepOut.{KeepOut}
use Rattle.keep_out_table.specs.declared.KeepOuts.{KeepOuts}
use Rattle.plan.specs.Plan.{Plan, plan_of, plan_under, Planner, view_of}
use Rattle.plan.specs.Setup.{Told}
use Rattle.plan.specs.KeepOut.{longer_of, told_of, Added, more_of, longer_setting, add_with}
use Rattle.plan.specs.declared.Setting.{Setting}
use Rattle.plan.proofs.Views.{view_set, view_unset}

pub added_bad : (t : KeepOuts) (k : KeepOut) → good_keep_out k ≡ false → record { keep_outs = keep_outs_of t; answer = BadInput } ≡ longer_of (keep_outs_of t) k
unfolding longer_of
added_bad t k e = rw e

-- how many there are
module _ (t : KeepOuts) (size : length t.slots ≡ 32) where
  many : length (keep_outs_of t) ≡ min t.count 32
  unfolding keep_outs_of
  many = length-map (take t.count t.slots) held_of ∙ length-take t.count t.slots ∙ ap (min t.count) size

  module _ (k : KeepOut) (good : good_keep_out k ≡ true) where
    full : 32 ≤ t.count → record { keep_outs = keep_outs_of t; answer = Full } ≡ longer_of (keep_outs_of t) k
    unfolding longer_of
    full h = let z : 32 ≤ length (keep_outs_of t) = omega (arith, many) in rw (good, le-ltb (length (keep_outs_of t)) 32 z)

    abbrev longer : KeepOuts
    longer = record { slots = set t.slots t.count (record { held = k }); count = t.count + 1 }

    held : t.count < 32 → keep_outs_of longer ≡ keep_outs_of t ++ (k ∷ [])
    unfolding keep_outs_of
    held h = let l : t.count < length t.slots = omega (arith, size) in rw (take_more_set t.slots t.count _ l) (simp map-append)

    done : t.count < 32 → record { keep_outs = keep_outs_of longer; answer = Done } ≡ longer_of (keep_outs_of t) k
    unfolding longer_of
    done h = let z : length (keep_outs_of t) < 32 = omega (arith, many) in rw (held h, good, lt-ltb (length (keep_outs_of t)) 32 z)

    -- the table with it, if there is room
    pub added : told_of t (ok_or (with_of t k) Full) ≡ longer_of (keep_outs_of t) k
    unfolding with_of
    added = whether (ltb t.count 32) (λ h. rw h (done (ltb-true t.count 32 h))) (λ h. rw h (full (ltb-false t.count 32 h)))

-- a planner's answer, for any plan and any tables
module _ {P A : Type 0} (list : P → List KeepOut) (under : P → List KeepOut → P) (tables : A) (k : KeepOut) where
  pub add_unset :
      (usable : Bool) (plan : P) → usable ≡ false →
      record { planner = view_of usable plan tables; answer = Uninitialised } ≡ add_with list under (view_of usable plan tables) k
  unfolding add_with
  add_unset usable plan u = rw (view_unset usable plan tables u)

  -- `of` makes the plan of what every planner's setup gives, and whether a planner can be used hangs on `ready` and on its tables
  module _ (of : Plan → P) (lists : (q : Plan) → list (of q) ≡ q.keep_outs) (unders : (q : Plan) (ks : List KeepOut) → under (of q) ks ≡ of (plan_under q ks)) (usable : Bool → Bool) where
    abbrev told : Added → Told P A
    told m = record { planner = view_of (usable m.ready) (of m.plan) tables; answer = m.answer }

    module _ (s : Setting) (u : usable s.ready ≡ true) where
      abbrev planner : Planner P A
      planner = view_of (usable s.ready) (of (plan_of s)) tables

      kept : told (longer_setting s k) ≡ add_with list under planner k
      unfolding add_with longer_setting
      kept = rw (view_set (usable s.ready) (of (longer_setting s k).plan) tables u, view_set (usable s.ready) (of (plan_of s)) tables u, lists (plan_of s), unders (plan_of s) _)

      pub add_set : (new : Setting) (answer : Answer) → more_of new answer ≡ longer_setting s k → told (more_of new answer) ≡ add_with list under planner k
      add_set new answer is = ap told is ∙ kept
