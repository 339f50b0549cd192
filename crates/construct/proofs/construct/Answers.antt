use mathlib.Core.Path.{sym, ◌∙◌}
use native.Mathlib.Omega.{arith}
use Rattle.samples.proofs.Threes.{turn_of}
use Rattle.roadmap.proofs.View.{empty_is}
use Rattle.construct.proofs.Runs.{construct_none, construct_some, build_starts, build_passed, build_full, build_added, build_ends}
use Rattle.construct.proofs.construct.Goals as goal

pub returns-then-map-ne0 : goal.returns-then-map-ne0
returns-then-map-ne0 c = sym (construct_some _ _ _ _ _ _ c.if-map-ne0.true)

pub loop-at-init : goal.loop-at-init
loop-at-init c =
    let parts = c.chunks_exact.ensures in
    let walk = c.enumerate-at-items.ensures in
    rw (c.into_iter-at-iterator.ensures.into_iter_gives, walk.source, walk.count, c.empty.ensures) (build_starts _ _ _ _ parts.size parts.rest)

pub returns-then-map-eq-MOST : goal.returns-then-map-eq-MOST
returns-then-map-eq-MOST c =
    rw (c.empty-then-map-eq-MOST.ensures, empty_is)
    (sym (build_full c.loop-at.invariant (turn_of c.in-Some.ensures.steps) c.state-s.ensures c.is_valid.ensures c.if-is_valid.true c.if-map-eq-MOST.true)
    ∙ sym (construct_none _ _ _ _ _ _ c.if-map-ne0.false))

pub loop-at-preserved-then-is_valid : goal.loop-at-preserved-then-is_valid
loop-at-preserved-then-is_valid c =
    rw (c.push.ensures)
    (build_added c.loop-at.invariant (turn_of c.in-Some.ensures.steps) c.state-s.ensures c.is_valid.ensures c.if-is_valid.true (omega arith) c.join_earlier.ensures)

pub loop-at-preserved : goal.loop-at-preserved
loop-at-preserved c = build_passed c.loop-at.invariant (turn_of c.in-Some.ensures.steps) c.state-s.ensures c.is_valid.ensures c.if-is_valid.false

pub returns : goal.returns
returns c = sym (build_ends c.loop-at.invariant c.in-None.ensures.steps.0.1.0) ∙ sym (construct_none _ _ _ _ _ _ c.if-map-ne0.false)
