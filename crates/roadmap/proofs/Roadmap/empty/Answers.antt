use mathlib.Core.Path.{refl}
use Rattle.roadmap.specs.View.{empty_of}
use Rattle.roadmap.proofs.Roadmap.empty.Goals as goal

pub returns : goal.returns
unfolding empty_of
returns c = refl
