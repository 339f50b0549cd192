use native.Mathlib.Omega.{arith}
use Rattle.samples.proofs.Threes.{turn_of}
use Rattle.star_run.proofs.Runs.{run_ends, turn_refused, turn_full, some_nodes, way_in, turn_found, turn_added}
use Rattle.star_run.proofs.run.Goals as goal

pub loop-i-preserved-in-Refused : goal.loop-i-preserved-in-Refused
loop-i-preserved-in-Refused c = turn_refused c.loop-i.invariant (turn_of c.in-Some.ensures.steps) c.state-s.ensures c.grow-g.ensures c.in-Refused.is

pub returns-in-Full : goal.returns-in-Full
returns-in-Full c = turn_full c.loop-i.invariant (turn_of c.in-Some.ensures.steps) c.state-s.ensures c.grow-g.ensures c.in-Full.is

pub overflow_sub-newest : goal.overflow_sub-newest
overflow_sub-newest c =
    some_nodes c.loop-i.invariant (turn_of c.in-Some.ensures.steps) c.state-s.ensures c.grow-g.ensures c.in-Added.is c.is_satisfied.ensures c.len-newest.ensures.nodes c.len-newest.ensures.sized

pub reconstruct_path-count-requires : goal.reconstruct_path-count-requires
reconstruct_path-count-requires c =
    let w =
    way_in c.loop-i.invariant (turn_of c.in-Some.ensures.steps) c.state-s.ensures c.grow-g.ensures c.in-Added.is c.is_satisfied.ensures c.len-newest.ensures.nodes c.len-newest.ensures.sized c.requires.2
    in (omega (arith, w.0), w.1, w.2)

pub returns-then-is_satisfied : goal.returns-then-is_satisfied
returns-then-is_satisfied c =
    turn_found c.loop-i.invariant (turn_of c.in-Some.ensures.steps) c.state-s.ensures c.grow-g.ensures c.in-Added.is c.is_satisfied.ensures c.len-newest.ensures.nodes c.if-is_satisfied.true c.reconstruct_path-count.ensures

pub loop-i-preserved : goal.loop-i-preserved
loop-i-preserved c =
    turn_added c.loop-i.invariant (turn_of c.in-Some.ensures.steps) c.state-s.ensures c.grow-g.ensures c.in-Added.is c.is_satisfied.ensures c.if-is_satisfied.false

pub returns : goal.returns
returns c = run_ends c.loop-i.invariant c.in-None.ensures.steps.0.1.0
