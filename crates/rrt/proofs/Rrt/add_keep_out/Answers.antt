use mathlib.Core.Bool.{Bool}
use mathlib.Core.Path.{refl, sym}
use Rattle.tree.specs.Table.{nodes_of}
use Rattle.plan.specs.Plan.{Plan, plan_under}
use Rattle.plan.specs.Setup.{usable_of}
use Rattle.plan.proofs.Adding.{add_unset, add_set}
use Rattle.rrt.specs.Planner.{planner_of, add_of}
use Rattle.rrt.proofs.Rrt.add_keep_out.Goals as goal

pub returns-then-not-is_usable : goal.returns-then-not-is_usable
unfolding planner_of add_of
returns-then-not-is_usable c = add_unset _ _ _ _ _ _ (sym c.if-not-is_usable.ensures)

pub returns : goal.returns
unfolding planner_of add_of
returns c =
    let tree = c.args.self.now.tree in
    add_set (λ (q : Plan). q.keep_outs) plan_under (nodes_of tree) _ (λ (q : Plan). q) (λ q. refl) (λ q ks. refl) (λ (ready : Bool). usable_of ready tree.count) _ (sym c.if-not-is_usable.ensures) _ _ c.add_keep_out.ensures
