use Prim.Native.Nat.{◌≤◌, ◌<◌}
use mathlib.Core.Path.{◌≡◌, refl}
use native.Mathlib.Omega.{arith}
use borrow.Author.Rules.{rules}
use borrow.Author.Tests.{eq-eqb, ne_eqb}
use lib.ListN.{length, get_or}
use Rattle.laws.specs.Rest.{mapped}
use Rattle.rewire.proofs.Moves.{moves_last, stays, goes}
use Rattle.rewire.proofs.rewire.Goals as goal
use Rattle.rewire.proofs.rewire.Goals.{then-i-choice+then-under-cost+then-check_motion, else-i-choice, else-i-choice-via-then-i-choice+then-under-cost+else-check_motion, else-i-choice-via-then-i-choice+else-under-cost, else-i-choice-via-else-i-choice}

pub loop-i-preserved : goal.loop-i-preserved
loop-i-preserved c =
    let h = c.loop-i.invariant in
    let more = c.loop-i-test.true in
    let sized : length c.loop-i.tree.nodes ≡ 512 = search (mapped, rules) in
    let below : get_or c.args.neighbours.now c.loop-i.i-index 0 < c.loop-i.tree.count = rw h.count (c.requires.2 _ 0 more) in
    let room : c.loop-i.tree.count ≤ length c.loop-i.tree.nodes = omega (arith, h.count) in
    let far = c.distance.ensures in
    elim c.if-i-choice.branch [
      | then-i-choice+then-under-cost+then-check_motion w ↦
          goes h more 0 _ refl below room _ _ far _ w.check_motion.ensures _ _ (rw (ne_eqb _ _ w.if-i-choice.true, w.if-under-cost.true, w.if-check_motion.true)) w.tree-is w.cost-is
      | else-i-choice w ↦
          elim w.else-i-choice.branch [
            | else-i-choice-via-then-i-choice+then-under-cost+else-check_motion w' ↦
                stays h more 0 _ refl below room _ _ far _ w'.check_motion.ensures _ _ (rw (ne_eqb _ _ w'.if-i-choice.true, w'.if-under-cost.true, w'.if-check_motion.false)) w.tree-is w.cost-is
            | else-i-choice-via-then-i-choice+else-under-cost w' ↦
                stays h more 0 _ refl below room _ _ far _ refl _ _ (rw (ne_eqb _ _ w'.if-i-choice.true, w'.if-under-cost.false)) w.tree-is w.cost-is
            | else-i-choice-via-else-i-choice w' ↦ stays h more 0 _ refl below room _ _ far _ refl _ _ (rw (eq-eqb _ _ w'.if-i-choice.false)) w.tree-is w.cost-is
          ]
    ]

pub returns : goal.returns
returns c = moves_last c.loop-i.invariant c.loop-i-test.false
