use borrow.Author.Tests.{le-leb, lt-leb}
use Rattle.motion.specs.Points.{point_at, part_way}
use Rattle.motion.proofs.Search.{exact}
use Rattle.motion.proofs.point.Goals as goal

pub int_to_float-i : goal.int_to_float-i
int_to_float-i c = exact _ c.requires.0

pub int_to_float-n : goal.int_to_float-n
int_to_float-n c = exact _ c.requires.1

pub returns-then-n-le1 : goal.returns-then-n-le1
unfolding point_at
returns-then-n-le1 c = rw (le-leb _ _ c.if-n-le1.true)

pub returns-else-n-le1 : goal.returns-else-n-le1
unfolding point_at part_way
returns-else-n-le1 c = rw (lt-leb _ _ c.if-n-le1.false) c.interpolate.ensures
