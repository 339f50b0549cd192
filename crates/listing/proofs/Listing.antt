-- A table that is filled row by row holds the keep-outs of the columns.
use Prim.Native.Nat.{ℕ, ◌+◌, ◌<◌, min}
use mathlib.Core.List.{List, map}
use mathlib.Core.Path.{◌≡◌, ◌∙◌, ap}
use native.Mathlib.Omega.{arith}
use lib.ListN.{length, take, set}
use lib.Ieee.{Float}
use Rattle.std.specs.List.{range_with_len}
use Rattle.std.proofs.lemmas.List.{take_more_set, map-append}
use Rattle.std.proofs.lemmas.List.FromFn.{map-range_with_len_more}
use Rattle.laws.specs.Rest.{take_most}
use Rattle.keep_out_table.specs.Table.{held_of, keep_outs_of}
use Rattle.keep_out.specs.declared.KeepOut.{KeepOut}
use Rattle.keep_out_table.specs.declared.Slot.{Slot}
use Rattle.columns.specs.Rows.{keep_out_at_of}
use Rattle.columns.specs.Columns.{columns_of}

module _ (kinds : List ℕ) (numbers : List Float) (slots : List Slot) where
  -- the first n places hold the keep-outs of the first n rows
  abbrev pub Filled : ℕ → Type 0
  Filled n = map held_of (take n slots) ≡ map (keep_out_at_of kinds numbers) (range_with_len 0 n)

  -- all rows, with the count as it came
  pub listed_is : (count rows : ℕ) → length slots ≡ 32 → rows ≡ min count 32 → Filled rows → keep_outs_of (record { slots = slots; count = count }) ≡ columns_of kinds numbers count
  unfolding keep_outs_of columns_of
  listed_is count rows size is filled = ap (map held_of) (take_most count 32 rows slots size is) ∙ filled ∙ rw is

-- one row more
pub filled_more :
    (kinds : List ℕ) (numbers : List Float) (slots : List Slot) (n : ℕ) (k : KeepOut) → n < length slots → k ≡ keep_out_at_of kinds numbers n →
    Filled kinds numbers slots n → Filled kinds numbers (set slots n (record { held = k })) (n + 1)
filled_more kinds numbers slots n k room is filled =
    rw (take_more_set slots n (record { held = k }) room, map-append, map-range_with_len_more (keep_out_at_of kinds numbers) 0 n n (omega arith), filled, is)
