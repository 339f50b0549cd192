use mathlib.Core.Path.{refl}
use Rattle.roadmap.specs.View.{span_of}
use Rattle.queue.specs.Queue.{queue_of}
use Rattle.queue.proofs.Tables.{empty_held}
use Rattle.queue.proofs.Queue.new.Goals as goal

pub invariant_of-result : goal.invariant_of-result
invariant_of-result c = empty_held

pub returns : goal.returns
unfolding queue_of span_of
returns c = refl
