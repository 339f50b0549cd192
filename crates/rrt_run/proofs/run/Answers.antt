use native.Mathlib.Omega.{arith}
use Rattle.samples.proofs.Threes.{turn_of}
use Rattle.rrt_run.proofs.Runs.{run_ends, turn_refused, turn_full, low, way_in, turn_added, turn_found}
use Rattle.rrt_run.proofs.run.Goals as goal

pub loop-i-preserved-then-not-e : goal.loop-i-preserved-then-not-e
loop-i-preserved-then-not-e c = turn_refused c.loop-i.invariant (turn_of c.in-Some.ensures.steps) c.state.ensures c.step-e.ensures c.if-not-e.true

pub returns-then-node-eq-MOST : goal.returns-then-node-eq-MOST
returns-then-node-eq-MOST c = turn_full c.loop-i.invariant (turn_of c.in-Some.ensures.steps) c.state.ensures c.step-e.ensures c.if-not-e.false c.len-node.ensures.nodes c.if-node-eq-MOST.true

pub returns : goal.returns
returns c = run_ends c.loop-i.invariant c.in-None.ensures.steps.0.1.0

pub push-requires : goal.push-requires
push-requires c =
    low c.loop-i.invariant (turn_of c.in-Some.ensures.steps) c.state.ensures c.step-e.ensures c.if-not-e.false c.len-node.ensures.nodes c.len-node.ensures.sized c.if-node-eq-MOST.false

pub reconstruct_path-count-requires : goal.reconstruct_path-count-requires
reconstruct_path-count-requires c =
    let w = way_in c.loop-i.invariant (turn_of c.in-Some.ensures.steps) c.state.ensures c.step-e.ensures c.if-not-e.false c.len-node.ensures.nodes c.len-node.ensures.sized c.if-node-eq-MOST.false c.requires.2 in
    rw c.push.ensures (omega (arith, w), omega (arith, w), omega (arith, w))

pub returns-then-is_satisfied : goal.returns-then-is_satisfied
returns-then-is_satisfied c =
    rw c.push.ensures
    (turn_found c.loop-i.invariant (turn_of c.in-Some.ensures.steps) c.state.ensures c.step-e.ensures c.if-not-e.false c.len-node.ensures.nodes c.len-node.ensures.sized c.if-node-eq-MOST.false c.is_satisfied.ensures c.if-is_satisfied.true (rw c.push.ensures at c.reconstruct_path-count.ensures))

pub loop-i-preserved : goal.loop-i-preserved
loop-i-preserved c =
    rw c.push.ensures
    (turn_added c.loop-i.invariant (turn_of c.in-Some.ensures.steps) c.state.ensures c.step-e.ensures c.if-not-e.false c.len-node.ensures.nodes c.len-node.ensures.sized c.if-node-eq-MOST.false c.is_satisfied.ensures c.if-is_satisfied.false)
