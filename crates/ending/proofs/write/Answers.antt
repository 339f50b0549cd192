use Rattle.ending.proofs.Endings.{end_joined}
use Rattle.ending.proofs.write.Goals as goal

pub returns-in-Joined : goal.returns-in-Joined
returns-in-Joined c =
    let w = rw (c.newest-in-Joined.ensures.node) at c.reconstruct_path-k.ensures in
    let a = rw (c.newest-in-Joined-2.ensures.node) at c.append_ancestors-up.ensures in
    rw (c.in-Joined.is) (end_joined _ _ _ _ _ _ w a)
