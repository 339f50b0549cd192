use Rattle.tree.specs.Table.{rooted_of}
use mathlib.Core.Path.{refl}
use Rattle.tree.proofs.Tree.rooted.Goals as goal

pub returns : goal.returns
unfolding rooted_of
returns c = refl
