use mathlib.Core.Path.{refl}
use Rattle.roadmap.specs.View.{pushed_of}
use Rattle.roadmap.proofs.Roadmap.push.Goals as goal

pub returns : goal.returns
unfolding pushed_of
returns c = refl
