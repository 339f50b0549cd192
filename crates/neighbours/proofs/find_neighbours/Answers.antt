use Prim.Native.Nat.{◌≤◌, ◌<◌}
use native.Mathlib.Omega.{arith}
use lib.ListN.{length, length-take}
use Rattle.neighbours.proofs.Finds.{finds_first, finds_one, finds_none, finds_all}
use Rattle.neighbours.proofs.find_neighbours.Goals as goal
use Rattle.neighbours.proofs.find_neighbours.Goals.{then-distance-radius, else-distance-radius}

pub loop-i-init : goal.loop-i-init
loop-i-init c = finds_first _ _ _ _ c.requires.1

pub loop-i-preserved : goal.loop-i-preserved
loop-i-preserved c =
    let h = c.loop-i.invariant in
    let all : length c.held-node-items.result.now ≤ 512 = rw c.held-node-items.ensures (omega (arith, length-take c.args.tree.now.count c.args.tree.now.nodes)) in
    let room : c.loop-i.many < length c.loop-i.found = omega (arith, h.few, h.sized) in
    elim c.if-distance-radius.branch [
      | then-distance-radius w ↦ finds_one h c.loop-i-test.true _ c.distance.ensures room w.if-distance-radius.true w.found-is w.many-is
      | else-distance-radius w ↦ finds_none h c.loop-i-test.true _ c.distance.ensures w.if-distance-radius.false w.found-is w.many-is
    ]

pub returns : goal.returns
returns c = finds_all c.loop-i.invariant c.args.tree.now c.held-node-items.ensures c.loop-i-test.false
