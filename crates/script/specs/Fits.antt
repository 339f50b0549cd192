-- What a line that is a call has: as much as its row of the table of calls asks for.
use Rattle.std.specs.Prelude.{ℕ, ◌≡◌, ◌≤◌, false, length, Some}
use Rattle.keep_out_table.specs.declared.KeepOuts.{KeepOuts}
use Rattle.grammar.specs.Rows.{row_of}
use Rattle.grammar.specs.declared.Numbers.{Numbers}
use Rattle.grammar.specs.declared.Numbers.TheVariants.{Exactly, Any}
use Rattle.grammar.specs.declared.Row.{Row}
use Rattle.script.specs.declared.line.Line.{Line}

abbrev pub HasNumbers : Numbers → ℕ → Type 0
HasNumbers (Exactly n) k = k ≡ n
HasNumbers Any k = Unit {0}

pub record HasCapacity (row : Row) (capacity : ℕ) : Type 0 where
  pub most : capacity ≤ 4096
  pub none : row.has_capacity ≡ false → capacity ≡ 0

pub record HasKeepOuts (row : Row) (table : KeepOuts) : Type 0 where
  pub least : row.least_keep_outs ≤ table.count
  pub most : table.count ≤ row.most_keep_outs

pub record Fits (row : Row) (line : Line) : Type 0 where
  pub capacity : HasCapacity row line.capacity
  pub numbers : HasNumbers row.numbers (length line.numbers.now)
  pub keep_outs : HasKeepOuts row line.table

-- its planner has such a call, and it fits the call's row
abbrev pub IsCall : Line → Type 0
IsCall line = (row : Row) × (row_of line.planner line.verb ≡ Some row) × Fits row line
