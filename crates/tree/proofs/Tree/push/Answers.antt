use mathlib.Core.Path.{refl}
use Rattle.tree.specs.Table.{pushed_of}
use Rattle.tree.proofs.Tree.push.Goals as goal

pub returns : goal.returns
unfolding pushed_of
returns c = refl
