use Prim.Native.Nat.{◌<◌, min}
use mathlib.Core.Path.{◌≡◌, refl}
use native.Mathlib.Omega.{arith}
use lib.ListN.{length, length-set}
use Rattle.listing.proofs.Listing.{filled_more, listed_is}
use Rattle.listing.proofs.table_of.Goals as goal

pub loop-row-preserved : goal.loop-row-preserved
loop-row-preserved c =
    let room : c.loop-row.row < length c.loop-row.table.slots = omega arith in
    (simp length-set c.loop-row.invariant.0, filled_more _ _ _ _ _ room c.keep_out_at-held.ensures c.loop-row.invariant.1)

pub returns : goal.returns
returns c =
    let all : c.loop-row.row ≡ min c.args.count 32 = omega arith in
    record { is = listed_is _ _ _ _ _ c.loop-row.invariant.0 all c.loop-row.invariant.1; many = refl }
