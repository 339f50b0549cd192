-- Document 01, "The mount", Keep-outs: each has good numbers, and there are at most 32.
use Rattle.std.specs.Prelude.{Bool, ◌&&◌, List, leb}
use Rattle.std.specs.List.{list_all}
use Rattle.keep_out.specs.Good.{good_keep_out}
use Rattle.keep_out.specs.declared.KeepOut.{KeepOut}
use Rattle.keep_out_table.specs.Table.{keep_outs_of}
use Rattle.keep_out_table.specs.declared.KeepOuts.{KeepOuts}

unfoldable pub all_good : List KeepOut → Bool
all_good ks = list_all good_keep_out ks

unfoldable pub good_table : KeepOuts → Bool
good_table t = leb t.count 32 && all_good (keep_outs_of t)
