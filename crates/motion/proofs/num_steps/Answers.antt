use Rattle.motion.proofs.Search.{steps_count, steps_many}
use Rattle.motion.proofs.num_steps.Goals as goal

pub returns-then-q : goal.returns-then-q
returns-then-q c = steps_count _ _ _ _ c.distance.ensures _ c.if-q.true c.least.ensures.is

pub returns : goal.returns
returns c = steps_many _ _ _ _ c.distance.ensures c.if-q.false
