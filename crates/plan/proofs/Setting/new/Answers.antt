use Rattle.plan.specs.Setup.{setting_of}
use Rattle.plan.proofs.Setting.new.Goals as goal

pub returns : goal.returns
unfolding setting_of
returns c = rw c.is_good.ensures
