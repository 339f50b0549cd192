use mathlib.Core.Path.{refl, sym, ◌∙◌, ap}
use mathlib.Core.List.{[], ◌∷◌}
use Rattle.queue.specs.Places.{numbers_of, push_of}
use Rattle.queue.proofs.Walk.{listed_yes, listed_not}
use Rattle.queue.proofs.Queue.connect.Goals as goal
use Rattle.queue.proofs.Queue.connect.Goals.{then-reaches, else-reaches}

pub loop-number-init : goal.loop-number-init
unfolding numbers_of push_of
loop-number-init c = refl

pub loop-number-preserved : goal.loop-number-preserved
loop-number-preserved c =
    let w = c.loop-number in
    elim c.if-reaches.branch [
      | then-reaches b ↦
          b.self-is ∙ b.push.ensures ∙ ap (λ q. push_of 0 q (w.number ∷ [])) w.invariant
          ∙ listed_yes _ _ 0 _ w.number _ c.loop-number-test.true (sym c.reaches.ensures ∙ b.if-reaches.true)
      | else-reaches b ↦ b.self-is ∙ w.invariant ∙ listed_not _ _ 0 _ w.number _ c.loop-number-test.true (sym c.reaches.ensures ∙ b.if-reaches.false)
    ]
