use native.Mathlib.Omega.{arith}
use Rattle.route.proofs.Stores.{put_in}
use Rattle.route.proofs.put.Goals as goal

pub returns : goal.returns
returns c = put_in _ _ _ _ c.args.s (omega arith) c.copy_from_slice.ensures.after
