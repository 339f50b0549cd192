use Rattle.rrt.proofs.Setups.{setup_refused, setup_done}
use Rattle.rrt.proofs.Rrt.setup.Goals as goal

pub returns-then-not-setting : goal.returns-then-not-setting
returns-then-not-setting c = setup_refused _ _ _ _ _ _ _ _ c.new-setting.ensures c.if-not-setting.true

pub returns : goal.returns
returns c = setup_done c.args.self.now _ _ _ _ _ _ _ c.new-setting.ensures c.if-not-setting.false _ c.rooted-self.ensures
