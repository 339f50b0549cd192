-- A keep-out that is not accepted changes nothing.
use mathlib.Core.Bool.{Bool, true, false}
use mathlib.Core.List.{List}
use mathlib.Core.Path.{◌≡◌, ◌∙◌, ap, ap₂}
use lib.Dec.{eqb, ltb}
use lib.ListN.{length}
use Rattle.laws.specs.Order.{whether}
use Rattle.answer.specs.Number.{number_of}
use Rattle.answer.specs.declared.Answer.{Answer}
use Rattle.keep_out.specs.Good.{good_keep_out}
use Rattle.keep_out.specs.declared.KeepOut.{KeepOut}
use Rattle.keep_out_table.specs.Table.{keep_outs_of}
use Rattle.plan.specs.Plan.{Plan, plan_of, plan_under, view_of}
use Rattle.plan.specs.KeepOut.{longer_of, Added, more_of, longer_setting}
use Rattle.plan.specs.declared.Setting.{Setting}
use Rattle.roadmap.specs.View.{milestones_of}
use Rattle.prm.specs.declared.Prm.{Prm}
use Rattle.prm.specs.Planner.{View, given_by, planner_of, told_of}
use Rattle.prm.specs.Adding.{add_of}

kept : (ks : List KeepOut) (k : KeepOut) → eqb (number_of (longer_of ks k).answer) 0 ≡ false → (longer_of ks k).keep_outs ≡ ks
unfolding longer_of
kept ks k h =
    whether (good_keep_out k)
    (λ g. whether (ltb (length ks) 32) (λ l. let z : true ≡ false = rw (g, l) at h in cc) (λ l. rw (g, l)))
    (λ g. rw g)

module _ (p : Prm) (k : KeepOut) (ready : p.setting.ready ≡ true) (new : Setting) (answer : Answer) (is : more_of new answer ≡ longer_setting p.setting k) (refusal : eqb (number_of answer) 0 ≡ false) where
  answered : answer ≡ (longer_of (keep_outs_of p.setting.mount.table) k).answer
  unfolding longer_setting
  answered = ap (λ (x : Added). x.answer) is

  same : plan_of new ≡ plan_of p.setting
  unfolding longer_setting
  same = ap (λ (x : Added). x.plan) is ∙ ap (plan_under (plan_of p.setting)) (kept (keep_outs_of p.setting.mount.table) k (rw answered at refusal))

  still : new.ready ≡ p.setting.ready
  unfolding longer_setting
  still = ap (λ (x : Added). x.ready) is

  view : planner_of (record { setting = new; start = p.start; map = p.map }) ≡ planner_of p
  unfolding planner_of
  view = ap₂ (λ (r : Bool) (q : Plan). view_of r (given_by q p.start) (milestones_of p.map)) still same

  refused : told_of p answer ≡ add_of (planner_of p) k
  unfolding planner_of add_of view_of
  refused = rw (ready, ← answered, refusal)

  pub add_refused : told_of (record { setting = new; start = p.start; map = p.map }) answer ≡ add_of (planner_of p) k
  add_refused = ap (λ (v : View). record { planner = v; answer = answer }) view ∙ refused
