use mathlib.Core.List.{[], ◌∷◌}
use mathlib.Core.Path.{sym, ◌∙◌, ap}
use Rattle.queue.specs.Places.{push_of}
use Rattle.queue.proofs.Tables.{held_yes, held_more, held_not}
use Rattle.queue.proofs.Queue.push.Goals as goal

pub returns-then-self-number : goal.returns-then-self-number
returns-then-self-number c =
    sym (rw (c.self.view_is) at (held_yes c.self.inside c.self.invariant _ c.args.from c.requires c.if-self-number.true))

pub invariant_of-self : goal.invariant_of-self
invariant_of-self c = held_more c.self.inside c.self.invariant _ _ c.requires c.if-self-number.false _ c.mark.ensures

pub returns : goal.returns
returns c =
    held_not c.self.inside c.self.invariant _ c.args.from c.requires c.if-self-number.false _ c.mark.ensures
    ∙ ap (λ q. push_of c.args.from q (c.args.number ∷ [])) c.self.view_is
