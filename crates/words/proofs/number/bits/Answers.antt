use mathlib.Core.Path.{sym, ap, ◌∙◌}
use native.Mathlib.Omega.{arith}
use native.Mathlib.Nat.{pow-le-pow_right}
use lib.Dec.{lit<}
use Rattle.std.specs.Prelude.{Some}
use Rattle.std.proofs.lemmas.Bool.Decides.{nat_tests}
use Rattle.words.specs.Number.{hex_word}
use Rattle.words.proofs.Patterns.{sixteen, left_digit, left_bad, left_value, grown}
use Rattle.words.proofs.number.bits.Goals as goal

pub returns-then-digits-ne-BITS_DIGITS : goal.returns-then-digits-ne-BITS_DIGITS
unfolding hex_word
returns-then-digits-ne-BITS_DIGITS c = grind (arith, nat_tests)

pub loop-byte-init : goal.loop-byte-init
loop-byte-init c = (lit< tt, sixteen c.args.digits.now c.if-digits-ne-BITS_DIGITS.false)

pub overflow_mul-bits : goal.overflow_mul-bits
overflow_mul-bits c =
    let at = c.loop-byte in
    omega (arith, at.invariant.0, pow-le-pow_right {n = 16} (lit< tt) {i = at.byte-index} {j = 15} (omega arith))

pub returns-in_err-bits : goal.returns-in_err-bits
returns-in_err-bits c = c.from_residual.ensures ∙ left_bad _ _ _ c.loop-byte.invariant.1 (omega arith) (sym c.in_err-bits.ensures.value)

pub overflow_add-bits : goal.overflow_add-bits
overflow_add-bits c =
    let at = c.loop-byte in
    omega (arith, at.invariant.0, c.in_ok-bits.ensures.below, pow-le-pow_right {n = 16} (lit< tt) {i = at.byte-index} {j = 15} (omega arith))

pub loop-byte-preserved : goal.loop-byte-preserved
loop-byte-preserved c =
    let at = c.loop-byte in
    (grown _ _ _ at.invariant.0 c.in_ok-bits.ensures.below, left_digit _ _ _ at.invariant.1 _ (omega arith) (sym c.in_ok-bits.ensures.value))

pub returns : goal.returns
returns c = ap Some c.from_bits.ensures ∙ left_value _ _ _ c.loop-byte.invariant.1 (omega arith)
