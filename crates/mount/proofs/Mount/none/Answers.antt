use Rattle.mount.specs.None.{no_mount}
use Rattle.mount.proofs.Mount.none.Goals as goal

pub returns : goal.returns
unfolding no_mount
returns c = rw c.new.ensures
