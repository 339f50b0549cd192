use native.Mathlib.Omega.{arith}
use Rattle.std.proofs.lemmas.Grind.{common_steps}
use Rattle.std.proofs.lemmas.Bool.Decides.{nat_tests}
use Rattle.words.specs.Number.{is_negative, sign_length_of, decimal_word}
use Rattle.words.proofs.number.decimal.Goals as goal

pub returns-in-45 : goal.returns-in-45
unfolding is_negative sign_length_of decimal_word
returns-in-45 c = grind (arith, common_steps, nat_tests)

pub returns-in_default : goal.returns-in_default
unfolding is_negative sign_length_of decimal_word
returns-in_default c = grind (arith, common_steps, nat_tests)
