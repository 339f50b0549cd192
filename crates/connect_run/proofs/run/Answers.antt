use Rattle.samples.proofs.Threes.{turn_of}
use Rattle.connect_run.proofs.Runs.{run_ends, turn_on, turn_ends}
use Rattle.connect_run.proofs.run.Goals as goal

pub returns-then-not-goes_on : goal.returns-then-not-goes_on
returns-then-not-goes_on c =
    turn_ends c.loop-i.invariant (turn_of c.in-Some.ensures.steps) c.state.ensures c.round-ends.ensures c.goes_on.ensures c.if-not-goes_on.true c.answer_of.ensures c.write.ensures

pub loop-i-preserved : goal.loop-i-preserved
loop-i-preserved c =
    turn_on c.loop-i.invariant (turn_of c.in-Some.ensures.steps) c.state.ensures c.round-ends.ensures c.goes_on.ensures c.if-not-goes_on.false

pub returns : goal.returns
returns c = run_ends c.loop-i.invariant c.in-None.ensures.steps.0.1.0
