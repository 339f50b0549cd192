use Prim.Native.Nat.{◌≤◌}
use mathlib.Core.Path.{◌≡◌, refl, sym, ◌∙◌}
use native.Mathlib.Omega.{arith}
use borrow.Author.Rules.{rules}
use lib.ListN.{length}
use Rattle.laws.specs.Rest.{mapped}
use Rattle.choice.proofs.Chooses.{choice_first, choice_turn, choice_end}
use Rattle.choice.proofs.choose_parent.Goals as goal
use Rattle.choice.proofs.choose_parent.Goals.{After-distance, then-via-best+then-check_motion, else-via-best, else-via-best-via-then-via-best+else-check_motion, else-via-best-via-else-via-best}

-- the tree's table has places for its nodes
roomy : (c : After-distance) → c.args.tree.now.count ≤ length c.args.tree.now.nodes
roomy c = let sized : length c.args.tree.now.nodes ≡ 512 = search (mapped, rules) in omega arith

pub loop-i-init : goal.loop-i-init
loop-i-init c = choice_first _ _ _ _ _ _ _ (roomy (goal.at.loop-i-init c).After-distance) _ _ _ c.requires.1 c.distance.ensures

pub loop-i-preserved : goal.loop-i-preserved
loop-i-preserved c =
    let room = roomy (goal.at.loop-i-preserved c).After-distance in
    let turn = choice_turn _ _ _ _ _ _ _ room _ _ _ (c.requires.2 _ 0 c.loop-i-test.true) c.distance-in-loop-i.ensures _ 0 c.loop-i-test.true refl in
    c.loop-i.invariant ∙ elim c.if-via-best.branch [
      | then-via-best+then-check_motion w ↦ turn _ w.check_motion.ensures _ _ (rw (w.best-is, w.if-via-best.true, w.if-check_motion.true))
      | else-via-best w ↦
          elim w.else-via-best.branch [
            | else-via-best-via-then-via-best+else-check_motion w' ↦ turn _ w'.check_motion.ensures _ _ (rw (w.best-is, w'.if-via-best.true, w'.if-check_motion.false))
            | else-via-best-via-else-via-best w' ↦ turn _ refl _ _ (rw (w.best-is, w'.if-via-best.false))
          ]
    ]

pub returns : goal.returns
returns c = sym (c.loop-i.invariant ∙ choice_end _ _ _ _ _ _ _ _ _ c.loop-i-test.false)
