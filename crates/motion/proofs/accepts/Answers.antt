use Prim.Native.Nat.{◌+◌, ◌-◌, ◌≤◌, max}
use lib.ListN.{take}
use Rattle.std.specs.List.{list_any}
use mathlib.Core.Path.{◌≡◌, refl, sym, ◌∙◌, ap}
use mathlib.Core.Bool.{true, false}
use native.Mathlib.Omega.{arith}
use Rattle.std.specs.Prelude.{Some}
use Rattle.std.proofs.lemmas.List.{take_all}
use Rattle.std.proofs.lemmas.List.Folds.{list_any_at, list_any_more}
use Rattle.laws.specs.Cases.{or_right}
use Rattle.keep_out.specs.Covers.{covered_of}
use Rattle.keep_out_table.specs.Table.{keep_outs_of}
use Rattle.keep_out_table.proofs.Covered.{hits, covered_held}
use Rattle.motion.specs.Points.{steps_of}
use Rattle.motion.specs.Accepts.{all_valid, accepts_of}
use Rattle.motion.proofs.Search.{steps_few}
use Rattle.motion.proofs.Walk.{left_at, tested_are, walk_end, point_out, point_hit, point_free, accepts_many, accepts_count}
use Rattle.motion.proofs.accepts.Goals as goal
use Rattle.motion.proofs.accepts.Goals.{In-Some, In-keep_outs, After-keep_outs}

-- the number of steps that the match found
count_is :
    (c : In-Some) →
    let a = c.args in
    Some c.in-Some.n ≡ steps_of a.segment a.from a.to
count_is c = sym c.in-Some.is ∙ c.num_steps.ensures

few : (c : In-Some) → c.in-Some.n ≤ 4096
few c = steps_few _ _ _ _ (count_is c)

pub returns-in_default : goal.returns-in_default
returns-in_default c = accepts_many _ _ _ _ _ (sym c.in_default.is ∙ c.num_steps.ensures)

-- at a point that is within the limits: the keep-outs that are left are those of the table
covers_are : (c : In-keep_outs) → covered_of (keep_outs_of c.args.table.now) c.point-s.result ≡ list_any (hits c.point-s.result) c.held-slots.result.now
covers_are c = rw (c.held-slots.ensures) (covered_held c.args.table.now c.point-s.result)

-- past the last keep-out: the point is free, and the answer rests on those after it
past : (c : After-keep_outs) → accepts_of c.args.limits c.args.segment (keep_outs_of c.args.table.now) c.args.from c.args.to
    ≡ left_at c.args.limits (keep_outs_of c.args.table.now) c.args.from c.args.to c.in-Some.n c.max-last.result (c.points.i + 1)
past c =
    let all : take c.keep_outs.slot-index c.held-slots.result.now ≡ c.held-slots.result.now = take_all _ _ c.keep_outs-test.false in
    let free : covered_of (keep_outs_of c.args.table.now) c.point-s.result ≡ false =
    covered_held c.args.table.now c.point-s.result ∙ rw (← c.held-slots.ensures) (rw all at c.keep_outs.invariant) in
    c.points.invariant ∙ point_free _ _ _ _ _ _ _ _ c.points-test.true c.point-s.ensures (sym c.within.ensures ∙ c.if-not-within.false) free

pub points-init : goal.points-init
points-init c =
    let a = c.args in
    let n = c.in-Some.n in
    let last = c.max-last.result in
    let z : last + 1 - 1 ≡ last = omega arith in
    sym (accepts_count a.limits a.segment (keep_outs_of a.table.now) a.from a.to n (count_is (goal.at.points-init c).In-Some))
    ∙ ap (all_valid a.limits (keep_outs_of a.table.now)) (tested_are a.from a.to n last (λ h. omega arith) (λ h. omega arith)) ∙ rw z

pub point-s-requires : goal.point-s-requires
point-s-requires c = let h = few (goal.at.point-s-requires c).In-Some in (omega arith, h)

pub returns-then-not-within : goal.returns-then-not-within
returns-then-not-within c =
    sym (c.points.invariant ∙ point_out _ _ _ _ _ _ _ _ c.points-test.true c.point-s.ensures (sym c.within.ensures ∙ c.if-not-within.true))

pub keep_outs-init : goal.keep_outs-init
keep_outs-init c = refl

pub returns-then-covers : goal.returns-then-covers
returns-then-covers c =
    let hit = list_any_at (hits c.point-s.result) c.held-slots.result.now c.keep_outs.slot-index _ c.keep_outs-test.true (sym c.covers.ensures ∙ c.if-covers.true) in
    sym
    (c.points.invariant
    ∙ point_hit _ _ _ _ _ _ _ _ c.points-test.true c.point-s.ensures (sym c.within.ensures ∙ c.if-not-within.false) (covers_are (goal.at.returns-then-covers c).In-keep_outs ∙ hit))

pub keep_outs-preserved : goal.keep_outs-preserved
keep_outs-preserved c =
    list_any_more (hits c.point-s.result) _ _ _ c.keep_outs-test.true ∙ or_right _ _ c.keep_outs.invariant ∙ sym c.covers.ensures ∙ c.if-covers.false

pub points-preserved : goal.points-preserved
points-preserved c = past (goal.at.points-preserved c).After-keep_outs

pub returns-else-not-within : goal.returns-else-not-within
returns-else-not-within c = sym (past (goal.at.returns-else-not-within c).After-keep_outs ∙ walk_end _ _ _ _ _ _ _ (omega arith))
