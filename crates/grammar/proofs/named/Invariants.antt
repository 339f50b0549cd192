use Rattle.std.proofs.Common.{◌≡◌, drop}
use Rattle.grammar.specs.Words.{value_in}
use Rattle.grammar.proofs.named.Given as goal

abbrev pub invariant-loop-name : goal.invariant-loop-name
invariant-loop-name g l = value_in l.word l.rows ≡ value_in l.word (drop l.name-index l.rows)
