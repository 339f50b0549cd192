use mathlib.Core.Path.{◌≡◌, ap}
use native.Mathlib.Omega.{arith}
use borrow.Author.Rules.{rules}
use lib.ListN.{length}
use Rattle.laws.specs.Rest.{mapped, within}
use Rattle.keep_out_table.specs.Table.{held_of}
use Rattle.given.specs.Given.{first_in}
use Rattle.given.proofs.keep_out.Goals as goal

pub returns : goal.returns
unfolding first_in
returns c =
    let slots = c.args.table.now.slots in
    let sized : length slots ≡ 32 = search (mapped, rules) in
    ap held_of (within slots 0 _ _ (omega arith))
