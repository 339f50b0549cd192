use Rattle.std.specs.Iterator.Adapters.{enumerate_source, enumerate_count}
use Rattle.std.specs.Slice.Iter.{chunks_exact_rest, chunks_exact_size}
use Rattle.star_run.proofs.Runs.{Sofar}
use Rattle.star_run.proofs.run.Given as goal

abbrev pub invariant-loop-i : goal.invariant-loop-i
invariant-loop-i l =
    let walk = enumerate_source l.i-iterator in
    Sofar l.mount l.max l.radius l.goal l.initial.tree l.initial.cost l.samples l.initial.route (chunks_exact_size walk) (enumerate_count l.i-iterator) (chunks_exact_rest walk) l.tree l.cost l.found l.route
