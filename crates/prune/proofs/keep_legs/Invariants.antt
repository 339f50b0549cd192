use Prim.Native.Nat.{◌-◌}
use Rattle.roadmap.specs.View.{Joins}
use Rattle.prune.proofs.Stood.{kept_to}
use Rattle.prune.proofs.keep_legs.Given as goal

-- of the legs that stood, those to the former numbers below `from` are joined
abbrev pub invariant-stood : goal.invariant-stood
invariant-stood l = Joins l.initial.legs l.n l.n (kept_to l.map l.segment l.k l.i l.from) l.legs

abbrev pub decreases-stood : goal.decreases-stood
decreases-stood l = l.i - l.from
