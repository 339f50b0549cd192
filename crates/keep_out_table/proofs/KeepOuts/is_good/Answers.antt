use Rattle.std.proofs.Common.{rules}
use borrow.Author.Tests.{le-leb, lt-leb}
use Rattle.std.proofs.lemmas.List.Folds.{list_all-map}
use Rattle.keep_out_table.specs.Good.{all_good, good_table}
use Rattle.keep_out_table.specs.Table.{keep_outs_of}
use Rattle.keep_out_table.proofs.KeepOuts.is_good.Goals as goal

pub returns-then-self-le-MOST : goal.returns-then-self-le-MOST
unfolding good_table all_good keep_outs_of
returns-then-self-le-MOST c = rw (le-leb _ _ c.if-self-le-MOST.true, list_all-map, ← c.held.ensures) c.all_good.ensures

pub returns-else-self-le-MOST : goal.returns-else-self-le-MOST
unfolding good_table
returns-else-self-le-MOST c = rw (lt-leb _ _ c.if-self-le-MOST.false)
