use native.Mathlib.Omega.{arith}
use borrow.Author.Rules.{rules}
use Rattle.std.proofs.lemmas.Grind.{common_steps}
use Rattle.std.proofs.lemmas.Bool.Decides.{nat_tests}
use Rattle.words.proofs.Numerals.{no_digit, no_point, alone, no_digit_behind, more_behind, with_part}
use Rattle.words.proofs.number.plain.Goals as goal
use Rattle.words.proofs.number.plain.Goals.{then-part-eq0-via-then-part-eq0, then-part-eq0-via-else-part-eq0+then-not-is_empty}

pub returns-then-whole-eq0 : goal.returns-then-whole-eq0
returns-then-whole-eq0 c = let whole = c.digits-whole.ensures in no_digit _ _ _ whole.reads _ whole.rest _ c.if-whole-eq0.true

pub returns-in-empty : goal.returns-in-empty
returns-in-empty c = let whole = c.digits-whole.ensures in alone _ _ _ whole.reads _ whole.rest _ (omega arith) c.if-whole-eq0.false _ c.short.ensures

pub returns-in_default : goal.returns-in_default
returns-in_default c = let whole = c.digits-whole.ensures in no_point _ _ _ whole.reads _ whole.rest _ (omega arith) (search rules)

pub returns-then-part-eq0 : goal.returns-then-part-eq0
returns-then-part-eq0 c =
    let whole = c.digits-whole.ensures in
    let part = c.digits-part.ensures in
    elim c.then-part-eq0.branch [
      | then-part-eq0-via-then-part-eq0 w ↦ no_digit_behind _ _ _ whole.reads _ whole.rest _ c.if-whole-eq0.false (omega arith) (search rules) _ (grind (arith, common_steps)) _ _ part.reads _ part.rest w.if-part-eq0.true
      | then-part-eq0-via-else-part-eq0+then-not-is_empty w ↦ more_behind _ _ _ whole.reads _ whole.rest _ c.if-whole-eq0.false (omega arith) (search rules) _ (grind (arith, common_steps)) _ _ part.reads _ part.rest (grind (arith, nat_tests))
    ]

pub returns-else-not-is_empty : goal.returns-else-not-is_empty
returns-else-not-is_empty c =
    let whole = c.digits-whole.ensures in
    let part = c.digits-part.ensures in
    with_part _ _ _ whole.reads _ whole.rest _ c.if-whole-eq0.false (omega arith) (search rules) _ (grind (arith, common_steps)) _ _ part.reads _ part.rest c.if-part-eq0.false (grind (arith, nat_tests)) _ c.short-in-46.ensures
