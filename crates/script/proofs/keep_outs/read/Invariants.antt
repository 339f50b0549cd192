-- The table counts each keep-out, the ones too that it has no room for.
use Rattle.std.proofs.Common.{◌≡◌}
use Rattle.script.proofs.keep_outs.read.Given as goal

abbrev pub invariant-loop-count : goal.invariant-loop-count
invariant-loop-count l = l.table.count ≡ l.count
