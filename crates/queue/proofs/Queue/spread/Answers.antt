use Prim.Native.Nat.{ℕ, ◌<◌}
use mathlib.Core.Path.{◌≡◌, ◌∙◌, ap}
use native.Mathlib.Omega.{arith}
use Rattle.legs.specs.Bits.{leg_at}
use Rattle.queue.specs.Places.{queued_of}
use Rattle.queue.proofs.Walk.{walked_none, walked_clear, walked_first}
use Rattle.queue.proofs.Queue.spread.Goals as goal
use Rattle.queue.proofs.Queue.spread.Goals.{After-next_unseen}

-- what was seen is what is queued
same : (c : After-next_unseen) → (j : ℕ) → j < 256 → leg_at c.self.inside.seen 0 j ≡ queued_of c.row.self j
same c j low = c.self.invariant.same j low ∙ c.self.invariant.is j low ∙ ap (λ q. queued_of q j) c.self.view_is

pub row-init : goal.row-init
row-init c = (walked_none _ _ _, omega arith)

pub row-preserved : goal.row-preserved
row-preserved c =
    let h = c.row.invariant in
    let s = same (goal.at.row-preserved c).After-next_unseen in
    (c.push.ensures ∙ walked_first _ _ _ _ _ _ s _ _ _ c.requires.1 c.in-Some.ensures h.0, omega (arith, c.in-Some.ensures.within))

pub returns : goal.returns
returns c =
    let h = c.row.invariant in
    walked_clear _ _ _ _ _ _ (same (goal.at.returns c).After-next_unseen) _ _ h.1 c.requires.1 c.in_default.ensures h.0
