use Rattle.tree.specs.Table.{none_of}
use mathlib.Core.Path.{refl}
use Rattle.tree.proofs.Tree.none.Goals as goal

pub returns : goal.returns
unfolding none_of
returns c = refl
