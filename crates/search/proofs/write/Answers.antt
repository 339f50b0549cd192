use Prim.Native.Nat.{◌+◌, ◌<◌}
use mathlib.Core.Path.{◌∙◌, ap}
use native.Mathlib.Omega.{arith}
use lib.ListN.{length, get_or}
use Rattle.laws.specs.Rest.{within}
use Rattle.tree.specs.Table.{Nodes}
use Rattle.route.specs.Path.{path_of}
use Rattle.route.specs.Written.{written_of}
use Rattle.queue.proofs.Tables.{held_few, places_long, place_is, number_low}
use Rattle.search.proofs.Trees.{growing_starts, growing_more, grown_all}
use Rattle.search.proofs.write.Goals as goal
use Rattle.search.proofs.write.Goals.{In-loop-k}

-- a place has the number of a milestone
low : (c : In-loop-k) → get_or c.queue.inside.order c.loop-k.k 0 < length c.args.milestones.now
low c = number_low c.queue.inside _ c.queue.view_is _ c.loop-k.k c.requires.1 c.loop-k-test.true

pub loop-k-init : goal.loop-k-init
loop-k-init c = growing_starts _ _ _ _ c.rooted-tree.ensures

pub offset_bounds-milestones-queue-inside : goal.offset_bounds-milestones-queue-inside
offset_bounds-milestones-queue-inside c = omega (arith, low (goal.at.offset_bounds-milestones-queue-inside c).In-loop-k)

pub bounds-milestones-queue-inside : goal.bounds-milestones-queue-inside
bounds-milestones-queue-inside c = low (goal.at.bounds-milestones-queue-inside c).In-loop-k

pub loop-k-preserved : goal.loop-k-preserved
loop-k-preserved c =
    let w = c.loop-k in
    let few = held_few c.queue.inside c.queue.invariant in
    let more : w.k < length c.args.queue.now = omega (arith, places_long c.queue.inside _ c.queue.view_is) in
    let here = place_is c.queue.inside _ c.queue.view_is w.k _ c.loop-k-test.true in
    let state = within _ _ _ _ (low (goal.at.loop-k-preserved c).In-loop-k) in
    rw (c.push.ensures) (growing_more _ _ w.invariant _ _ more (omega arith) here state)

pub overflow_add-place : goal.overflow_add-place
overflow_add-place c = omega (arith, places_long c.queue.inside _ c.queue.view_is, held_few c.queue.inside c.queue.invariant)

pub reconstruct_path-requires : goal.reconstruct_path-requires
reconstruct_path-requires c =
    let all = places_long c.queue.inside _ c.queue.view_is in
    let few = held_few c.queue.inside c.queue.invariant in
    let many = c.loop-k.invariant.many in
    (omega (arith, c.requires.0), omega arith, omega (arith, c.requires.2))

pub returns : goal.returns
returns c =
    let wrote = c.reconstruct_path.ensures in
    let tree = grown_all _ _ c.loop-k.invariant (omega (arith, places_long c.queue.inside _ c.queue.view_is)) in
    record {
      count = wrote.count ∙ ap (λ (x : Nodes). length (path_of x (c.args.place + 1))) tree;
      memory = wrote.memory ∙ ap (λ (x : Nodes). written_of (path_of x (c.args.place + 1)) c.args.route.now) tree;
    }
