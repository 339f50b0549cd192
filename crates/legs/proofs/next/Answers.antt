use Rattle.legs.proofs.Walk.{next_of_all}
use Rattle.legs.proofs.next.Goals as goal

pub returns : goal.returns
returns c = next_of_all _ _ _ _ _ c.next_unseen.ensures
