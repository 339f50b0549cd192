use Rattle.keep_out_table.proofs.Covered.{covered_held}
use Rattle.keep_out_table.proofs.KeepOuts.covers.Goals as goal

pub returns : goal.returns
returns c = rw (covered_held, ← c.held.ensures) c.any_covers.ensures
