use mathlib.Core.Path.{refl}
use Rattle.keep_out_table.specs.Table.{empty_table}
use Rattle.keep_out_table.proofs.KeepOuts.new.Goals as goal

pub returns : goal.returns
unfolding empty_table
returns c = refl
