use Prim.Native.Nat.{◌+◌, ◌-◌}
use mathlib.Core.Bool.{true, false}
use mathlib.Core.Path.{◌≡◌}
use native.Mathlib.Omega.{arith}
use Rattle.std.proofs.Common.{rules}
use Rattle.parking.proofs.Parks.{is_done, park_ended, park_full, park_on, park_stopped}
use Rattle.parking.proofs.park.Goals as goal

pub loop-k-init : goal.loop-k-init
loop-k-init c =
    let n : c.args.added - 0 ≡ c.args.added = omega arith in
    let j : c.args.first + 0 ≡ c.args.first = omega arith in
    (omega arith, rw (n, j))

pub overflow_add-row : goal.overflow_add-row
overflow_add-row c = omega (arith, c.loop-k.invariant.0)

pub returns-then-row-ge-MOST : goal.returns-then-row-ge-MOST
returns-then-row-ge-MOST c = park_full _ _ _ _ _ _ _ c.loop-k.invariant.1 c.loop-k-test.true c.if-row-ge-MOST.true

pub returns-then-ne : goal.returns-then-ne
returns-then-ne c =
    let refused : is_done c.add_keep_out-answer.result ≡ false = search rules in
    park_stopped _ _ _ _ _ _ _ c.loop-k.invariant.1 c.loop-k-test.true c.if-row-ge-MOST.false _ c.keep_out_at.ensures _ c.add_keep_out-answer.ensures refused

pub loop-k-preserved : goal.loop-k-preserved
loop-k-preserved c =
    let done : is_done c.add_keep_out-answer.result ≡ true = search rules in (
      omega arith,
      park_on _ _ _ _ _ _ _ c.loop-k.invariant.1 c.loop-k-test.true c.if-row-ge-MOST.false _ c.keep_out_at.ensures _ c.add_keep_out-answer.ensures done,
    )

pub returns : goal.returns
returns c = park_ended _ _ _ _ _ _ _ c.loop-k.invariant.1 c.loop-k-test.false
