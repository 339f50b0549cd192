use mathlib.Core.Path.{◌≡◌, sym, ◌∙◌}
use native.Mathlib.Omega.{arith}
use lib.ListN.{length}
use Rattle.roadmap.proofs.Joins.{joins_none, joins_yes, joins_not}
use Rattle.construct.proofs.join_earlier.Goals as goal
use Rattle.construct.proofs.join_earlier.Goals.{then-reaches, else-reaches}

pub loop-j-init : goal.loop-j-init
loop-j-init c = joins_none _ _ _

pub loop-j-preserved : goal.loop-j-preserved
loop-j-preserved c =
    elim c.if-reaches.branch [
      | then-reaches w ↦ rw w.legs-is (joins_yes _ _ _ _ _ _ c.loop-j.invariant w.link.ensures (sym c.reaches.ensures ∙ w.if-reaches.true))
      | else-reaches w ↦ rw w.legs-is (joins_not _ _ _ _ _ c.loop-j.invariant (sym c.reaches.ensures ∙ w.if-reaches.false))
    ]

pub returns : goal.returns
returns c =
    let all : c.loop-j.j ≡ length c.args.earlier.now = omega arith in
    rw all at c.loop-j.invariant
