use native.Mathlib.Omega.{arith}
use Rattle.std.proofs.lemmas.Bool.Decides.{nat_tests}
use Rattle.words.proofs.Numerals.{no_whole_digit, more_than_digits, too_many_digits, whole_value}
use Rattle.words.proofs.number.whole_of.Goals as goal
use Rattle.words.proofs.number.whole_of.Goals.{else-run-gt0-via-then-run-gt0+then-run-le-MOST_DIGITS+else-is_empty, else-run-gt0-via-then-run-gt0+else-run-le-MOST_DIGITS, else-run-gt0-via-else-run-gt0}

pub returns-then-is_empty : goal.returns-then-is_empty
returns-then-is_empty c =
    let run = c.digits-run.ensures in
    whole_value _ _ _ run.reads _ run.rest c.if-run-gt0.true (grind (arith, nat_tests)) c.if-run-le-MOST_DIGITS.true

pub returns-else-run-gt0 : goal.returns-else-run-gt0
returns-else-run-gt0 c =
    let run = c.digits-run.ensures in
    elim c.else-run-gt0.branch [
      | else-run-gt0-via-then-run-gt0+then-run-le-MOST_DIGITS+else-is_empty w ↦ more_than_digits _ _ _ run.reads _ run.rest (grind (arith, nat_tests))
      | else-run-gt0-via-then-run-gt0+else-run-le-MOST_DIGITS w ↦ too_many_digits _ _ _ run.reads _ run.rest w.if-run-le-MOST_DIGITS.false
      | else-run-gt0-via-else-run-gt0 w ↦ no_whole_digit _ _ _ run.reads _ run.rest (omega arith)
    ]
