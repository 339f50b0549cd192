use Prim.Native.Nat.{◌≤◌}
use mathlib.Core.Path.{sym}
use native.Mathlib.Omega.{arith}
use Rattle.plan.proofs.Usable.{usable_most}
use Rattle.rrt_star.proofs.Views.{whole, cost_set, cost_past, cost_unset}
use Rattle.rrt_star.proofs.RrtStar.cost.Goals as goal
use Rattle.rrt_star.proofs.RrtStar.cost.Goals.{After-len, then-not-is_usable-via-then-not-is_usable, then-not-is_usable-via-else-not-is_usable+then-len-i}

pub returns-then-not-is_usable : goal.returns-then-not-is_usable
returns-then-not-is_usable c =
    elim c.then-not-is_usable.branch [
      | then-not-is_usable-via-then-not-is_usable w ↦ cost_unset _ w.if-not-is_usable.ensures _
      | then-not-is_usable-via-else-not-is_usable+then-len-i w ↦ cost_past _ w.if-not-is_usable.ensures _ (let past = w.if-len-i.true in omega (arith, w.len.ensures.nodes))
    ]

-- the tree's nodes are no more than the table's places
few : (c : After-len) → c.len.result ≤ 512
few c = omega (arith, usable_most _ _ (sym c.if-not-is_usable.ensures), whole c.args.self.now c.if-not-is_usable.ensures c.len.ensures.nodes c.len.ensures.sized)

pub offset_bounds-self-i : goal.offset_bounds-self-i
offset_bounds-self-i c = omega (arith, few (goal.at.offset_bounds-self-i c).After-len)

pub bounds-self-i : goal.bounds-self-i
bounds-self-i c = omega (arith, few (goal.at.bounds-self-i c).After-len)

pub returns : goal.returns
returns c = cost_set _ c.if-not-is_usable.ensures c.len.ensures.nodes c.len.ensures.sized _ c.if-len-i.false
