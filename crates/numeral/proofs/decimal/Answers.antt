use native.Mathlib.Omega.{arith}
use Rattle.std.proofs.lemmas.Bool.Decides.{nat_tests}
use Rattle.numeral.specs.Decimal.{short_of, decimal_of}
use Rattle.numeral.proofs.Cases.{power_small, exact, plain, negated}
use Rattle.numeral.proofs.decimal.Goals as goal
use Rattle.numeral.proofs.decimal.Goals.{then-negative, else-negative}

pub pow-requires : goal.pow-requires
pow-requires c = omega (arith, power_small c.args.places (omega arith))

pub int_to_float-size : goal.int_to_float-size
int_to_float-size c = exact _ (omega arith)

pub int_to_float-size-then-places-le-MOST_PLACES : goal.int_to_float-size-then-places-le-MOST_PLACES
int_to_float-size-then-places-le-MOST_PLACES c = exact _ (rw c.pow.ensures (power_small _ (omega arith)))

pub returns-then-places-le-MOST_PLACES : goal.returns-then-places-le-MOST_PLACES
returns-then-places-le-MOST_PLACES c =
    let p = plain c.args.digits c.args.places (omega arith) (omega arith) _ c.pow.ensures in
    let n = negated c.args.digits c.args.places (omega arith) (omega arith) _ c.pow.ensures in
    elim c.if-negative.branch [ then-negative w ↦ cc | else-negative w ↦ cc ]

pub returns : goal.returns
unfolding short_of decimal_of
returns c = grind (arith, nat_tests)
