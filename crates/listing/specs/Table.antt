-- A table of keep-outs from columns, and kinds that are known.
use Rattle.std.specs.Prelude.{ℕ, min, Bool, List, take, ◌≡◌, leb, Float}
use Rattle.std.specs.List.{list_all}
use Rattle.keep_out_table.specs.Table.{keep_outs_of}
use Rattle.keep_out_table.specs.declared.KeepOuts.{KeepOuts}
use Rattle.columns.specs.Columns.{columns_of}

-- the keep-outs of the first count rows, and the count as it came: a count beyond the rows is the setup's to refuse
pub record Listed (kinds : List ℕ) (numbers : List Float) (count : ℕ) (t : KeepOuts) : Type 0 where
  pub is : keep_outs_of t ≡ columns_of kinds numbers count
  pub many : t.count ≡ count

-- the kinds of the first count rows, at most the 32 that there are, are each one of the three: 0 a box, 1 a disc, 2 a floor
unfoldable pub known_of : List ℕ → ℕ → Bool
known_of kinds count = list_all (λ kind. leb kind 2) (take (min count 32) kinds)
