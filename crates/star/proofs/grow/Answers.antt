use Rattle.star.specs.Grow.{plan_with}
use Rattle.star.proofs.Growing.{nearest_is_one, refused, full, low, added}
use Rattle.star.proofs.grow.Goals as goal
use Rattle.star.proofs.grow.Goals.{then-not-e, else-not-e+then-room, else-not-e+else-room}

pub add-requires : goal.add-requires
add-requires c = (
  low (plan_with c.args.mount.now c.args.max_distance c.args.radius) _ _ c.args.found.now c.requires _ _ c.step-e.ensures _ c.len-room.ensures.nodes c.if-not-e.false c.len-room.ensures.sized c.if-room.true,
  nearest_is_one _ _ _ _ _ c.requires.0 _ _ c.step-e.ensures,
  c.requires.2,
  c.requires.3,
)

pub returns : goal.returns
returns c =
    elim c.if-not-e.branch [
      | then-not-e w ↦ rw (w.tree-is, w.cost-is, w.found-is, w.verdict-is) (refused _ _ _ _ c.requires _ _ c.step-e.ensures w.if-not-e.true)
      | else-not-e+then-room w ↦ rw (w.tree-is, w.cost-is, w.found-is, w.verdict-is) (added _ _ _ _ c.requires _ _ c.step-e.ensures _ c.len-room.ensures.nodes w.if-not-e.false c.len-room.ensures.sized w.if-room.true _ _ _ w.add.ensures)
      | else-not-e+else-room w ↦ rw (w.tree-is, w.cost-is, w.found-is, w.verdict-is) (full _ _ _ _ c.requires _ _ c.step-e.ensures _ c.len-room.ensures.nodes w.if-not-e.false w.if-room.false)
    ]
