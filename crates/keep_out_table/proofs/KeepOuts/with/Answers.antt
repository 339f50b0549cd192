use borrow.Author.Tests.{lt-ltb, le-ltb}
use Rattle.keep_out_table.specs.Table.{with_of}
use Rattle.keep_out_table.proofs.KeepOuts.with.Goals as goal

pub returns-then-n-ge-MOST : goal.returns-then-n-ge-MOST
unfolding with_of
returns-then-n-ge-MOST c = simp (le-ltb _ _ c.if-n-ge-MOST.true)

pub returns : goal.returns
unfolding with_of
returns c = simp (lt-ltb _ _ c.if-n-ge-MOST.false)
