use mathlib.Core.Path.{◌≡◌}
use lib.ListN.{length}
use Rattle.listing.proofs.Listing.{Filled}
use Rattle.listing.proofs.table_of.Given as goal

abbrev pub invariant-loop-row : goal.invariant-loop-row
invariant-loop-row l = (length l.table.slots ≡ 32) × Filled l.kinds l.numbers l.table.slots l.row
