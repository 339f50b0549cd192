-- The keep-out that a row of columns stands for.
use Rattle.std.specs.Prelude.{ℕ, ◌+◌, ◌*◌, cond, List, eqb, get_or, Float}
use Rattle.std.specs.Float.{nan}
use Rattle.keep_out.specs.declared.KeepOut.{KeepOut}
use Rattle.keep_out.specs.declared.KeepOut.TheVariants.{Box, Disc, Floor}

-- kind 0 is a box, 1 a disc, and any other a floor; row j has the six numbers from 6 x j on
unfoldable pub keep_out_at_of : List ℕ → List Float → ℕ → KeepOut
keep_out_at_of kinds numbers j =
    let kind = get_or kinds j 0 in
    let a = get_or numbers (6 * j) nan in
    let b = get_or numbers (6 * j + 1) nan in
    let c = get_or numbers (6 * j + 2) nan in
    let d = get_or numbers (6 * j + 3) nan in
    let e = get_or numbers (6 * j + 4) nan in
    let f = get_or numbers (6 * j + 5) nan in
    let box = Box (record { az = a; el = b; feed = c }) (record { az = d; el = e; feed = f }) in
    cond (eqb kind 0) box (cond (eqb kind 1) (Disc a b c) (Floor a))
