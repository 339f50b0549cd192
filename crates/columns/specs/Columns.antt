-- The keep-outs that columns hold, in order.
use Rattle.std.specs.Prelude.{ℕ, min, List, map, Float}
use Rattle.std.specs.List.{range_with_len}
use Rattle.keep_out.specs.declared.KeepOut.{KeepOut}
use Rattle.columns.specs.Rows.{keep_out_at_of}

-- the first n, at most the 32 that columns hold
unfoldable pub columns_of : List ℕ → List Float → ℕ → List KeepOut
columns_of kinds numbers n = map (keep_out_at_of kinds numbers) (range_with_len 0 (min n 32))
