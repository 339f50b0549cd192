use Prim.Native.Nat.{◌<◌, min}
use mathlib.Core.Path.{◌≡◌, sym}
use native.Mathlib.Omega.{arith}
use Rattle.state.specs.Rows.{state_at}
use Rattle.prune.proofs.Pruning.{was, held_long, held_state, few, prune_starts, prune_gone, prune_kept, prune_ends}
use Rattle.prune.proofs.pruned.Goals as goal
use Rattle.prune.proofs.pruned.Goals.{In-loop-i, then-not-covers, else-not-covers}

-- what is known in a turn: the milestone is one of the map's
more : (c : In-loop-i) → c.loop-i.i < min c.args.map.now.count 256
more c = omega (arith, held_long c.args.map.now _ c.held-milestone-items.ensures.many)

state : (c : In-loop-i) → state_at c.held-milestone-items.result.now c.loop-i.i ≡ was c.args.map.now c.loop-i.i
state c =
    let held = c.held-milestone-items.ensures in
    held_state c.args.map.now _ held.many held.states c.loop-i.i c.loop-i-test.true

pub loop-i-init : goal.loop-i-init
loop-i-init c = rw (c.empty-left.ensures) (prune_starts _ _ _)

pub keep_legs-requires : goal.keep_legs-requires
keep_legs-requires c =
    let h = c.loop-i.invariant in
    let inside = more (goal.at.keep_legs-requires c).In-loop-i in
    (omega (arith, inside), omega (arith, inside, few h), h.many, h.table)

pub bounds-at-i : goal.bounds-at-i
bounds-at-i c = omega (arith, more (goal.at.bounds-at-i c).In-loop-i)

pub push-requires : goal.push-requires
push-requires c = omega (arith, more (goal.at.push-requires c).In-loop-i, few c.loop-i.invariant)

pub loop-i-preserved : goal.loop-i-preserved
loop-i-preserved c =
    let h = c.loop-i.invariant in
    let here = (goal.at.loop-i-preserved c).In-loop-i in
    elim c.if-not-covers.branch [
      | then-not-covers w ↦ rw (w.left-is, w.at-is, w.push.ensures, state here) (prune_kept h (more here) (rw (state here) at (sym w.if-not-covers.ensures)) w.keep_legs.ensures)
      | else-not-covers w ↦ rw (w.left-is, w.at-is) (prune_gone h (more here) (rw (state here) at (sym w.if-not-covers.ensures)))
    ]

pub returns : goal.returns
returns c = prune_ends c.loop-i.invariant (omega (arith, held_long c.args.map.now _ c.held-milestone-items.ensures.many))
