use Rattle.words.proofs.Runs.{Left}
use Rattle.words.proofs.number.digits.Given as goal

abbrev pub invariant-loop-i : goal.invariant-loop-i
invariant-loop-i l = Left l.text l.before l.value l.i
