use mathlib.Core.Path.{◌≡◌, sym, ◌∙◌}
use lib.ListN.{length}
use native.Mathlib.Omega.{arith}
use Rattle.words.proofs.Runs.{left_all, left_less, at_end, at_other, at_digit}
use Rattle.words.proofs.number.digits.Goals as goal
use Rattle.words.proofs.number.digits.Goals.{then-not-is_ascii_digit-via-then-not-is_ascii_digit, then-not-is_ascii_digit-via-else-not-is_ascii_digit+then-value-ge-FULL}

pub loop-i-init : goal.loop-i-init
loop-i-init c = left_all _ _

pub returns-then-not-is_ascii_digit-clause-reads : goal.returns-then-not-is_ascii_digit-clause-reads
returns-then-not-is_ascii_digit-clause-reads c =
    let l = c.loop-i.invariant in
    elim c.then-not-is_ascii_digit.branch [
      | then-not-is_ascii_digit-via-then-not-is_ascii_digit w ↦ at_other _ _ _ _ l (omega arith) (sym c.is_ascii_digit.ensures.value ∙ w.if-not-is_ascii_digit.true)
      | then-not-is_ascii_digit-via-else-not-is_ascii_digit+then-value-ge-FULL w ↦ at_digit _ _ _ _ l (omega arith) (sym c.is_ascii_digit.ensures.value ∙ w.if-not-is_ascii_digit.false) w.if-value-ge-FULL.true
    ]

pub loop-i-preserved : goal.loop-i-preserved
loop-i-preserved c =
    let l = c.loop-i.invariant in
    rw c.from.ensures (left_less _ _ _ _ l (omega arith) (sym c.is_ascii_digit.ensures.value ∙ c.if-not-is_ascii_digit.false))

pub returns-clause-reads : goal.returns-clause-reads
returns-clause-reads c = let e : c.loop-i.i ≡ length c.args.text.now = omega arith in rw (← e) (at_end _ _ _ _ c.loop-i.invariant e)
