use mathlib.Core.Bool.{Bool}
use mathlib.Core.Path.{refl, sym}
use Rattle.plan.specs.Plan.{Plan}
use Rattle.plan.specs.Setup.{usable_of}
use Rattle.plan.proofs.Adding.{add_unset, add_set}
use Rattle.star.specs.Grow.{tree_of}
use Rattle.star_run.specs.Run.{StarPlan, star_under}
use Rattle.rrt_star.specs.Planner.{planner_of, add_of}
use Rattle.rrt_star.proofs.RrtStar.add_keep_out.Goals as goal

pub returns-then-not-is_usable : goal.returns-then-not-is_usable
unfolding planner_of add_of
returns-then-not-is_usable c = add_unset _ _ _ _ _ _ (sym c.if-not-is_usable.ensures)

pub returns : goal.returns
unfolding planner_of add_of
returns c =
    let p = c.args.self.now in
    let of : Plan → StarPlan = λ q. record { reach = record { limits = q.limits; segment = q.segment; keep_outs = q.keep_outs; max = q.max; radius = p.search_radius.value }; goal = q.goal } in
    add_set (λ (q : StarPlan). q.reach.keep_outs) star_under (tree_of p.tree p.cost) _ of (λ q. refl) (λ q ks. refl) (λ (ready : Bool). usable_of ready p.tree.count) _ (sym c.if-not-is_usable.ensures) _ _ c.add_keep_out.ensures
