-- Document 01, "Sizes and answers": the table's number of each answer.
use Rattle.std.specs.Prelude.{ℕ}
use Rattle.answer.specs.declared.Answer.{Answer}
use Rattle.answer.specs.declared.Answer.TheVariants.{Done, Uninitialised, BadInput, SamplesEnded, Full, Unsampled, InvalidStart, NoSolution, Room}

abbrev pub number_of : Answer → ℕ
number_of Done = 0
number_of Uninitialised = 1
number_of BadInput = 2
number_of SamplesEnded = 3
number_of Full = 4
number_of Unsampled = 5
number_of InvalidStart = 6
number_of NoSolution = 7
number_of Room = 8
