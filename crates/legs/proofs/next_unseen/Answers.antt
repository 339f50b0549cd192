use Prim.Native.Nat.{ℕ, ◌-◌, ◌/◌, ◌%◌, ◌^◌, ◌<◌}
use mathlib.Core.Path.{refl}
use native.Mathlib.Omega.{arith}
use lib.Count.{count_trailing_zeros}
use Rattle.legs.proofs.Walk.{none_passed, zeros_few, found, no_more}
use Rattle.legs.proofs.next_unseen.Goals as goal
use Rattle.legs.proofs.next_unseen.Goals.{After-without}

module _ (c : After-without) where
  abbrev head : After-without
  head = c

  abbrev rest : ℕ
  rest = c.without.result / 2 ^ (head.words.at % 64)

  few : 0 < rest → count_trailing_zeros 64 rest < 64 - head.words.at % 64
  few = zeros_few head.args.legs.now head.args.i head.args.seen.now head.words.at c.without.result rest c.without.ensures refl

pub words-init : goal.words-init
words-init c = (omega arith, none_passed _ _)

pub overflow_cast-found : goal.overflow_cast-found
overflow_cast-found c = omega (arith, few (goal.at.overflow_cast-found c).After-without (omega (arith, c.if-rest-ne0.true)))

pub overflow_add-found : goal.overflow_add-found
overflow_add-found c = omega (arith, few (goal.at.overflow_add-found c).After-without (omega (arith, c.if-rest-ne0.true)))

pub returns-then-rest-ne0 : goal.returns-then-rest-ne0
returns-then-rest-ne0 c =
    let word = c in
    let h = (head (goal.at.returns-then-rest-ne0 c).After-without).words in
    rw (word.then_some.ensures)
    (found _ _ _ h.at _ (rest (goal.at.returns-then-rest-ne0 c).After-without) word.without.ensures refl _ h.invariant.0 h.invariant.1 (omega (arith, word.if-rest-ne0.true)) _)

pub words-preserved : goal.words-preserved
words-preserved c =
    let word = c in
    let h = (head (goal.at.words-preserved c).After-without).words in (
      omega arith,
      no_more _ _ _ h.at _ (rest (goal.at.words-preserved c).After-without) word.without.ensures refl _ h.invariant.0 h.invariant.1 c.if-rest-ne0.false,
    )

pub returns : goal.returns
returns c = λ j a b. c.words.invariant.1 j a (omega arith)
