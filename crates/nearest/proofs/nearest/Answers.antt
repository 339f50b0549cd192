use Prim.Native.Nat.{◌<◌}
use mathlib.Core.List.{map}
use mathlib.Core.Path.{◌≡◌, sym, ◌∙◌, ap}
use native.Mathlib.Omega.{arith}
use lib.ListN.{length}
use Rattle.tree.specs.Table.{state_in, states_of}
use Rattle.nearest.specs.Nearest.{nearest_of}
use Rattle.nearest.proofs.Turns.{search_turn, search_end, search_none, search_first}
use Rattle.nearest.proofs.nearest.Goals as goal
use Rattle.nearest.proofs.nearest.Goals.{After-held-nodes, then-far-best, else-far-best}

-- the places that hold nodes have the tree's states
held : (c : After-held-nodes) → map state_in c.held-nodes.result.now ≡ states_of c.args.tree.now
unfolding states_of
held c = ap (map state_in) c.held-nodes.ensures

pub returns-then-is_empty : goal.returns-then-is_empty
unfolding nearest_of
returns-then-is_empty c =
    let none : length c.held-nodes.result.now ≡ 0 = grind arith in
    rw (← held (goal.at.returns-then-is_empty c).After-held-nodes, search_none _ _ none)

pub loop-index-init : goal.loop-index-init
loop-index-init c =
    let some : 0 < length c.held-nodes.result.now = grind arith in
    rw (c.distance.ensures) (search_first _ _ _ some)

pub loop-index-preserved : goal.loop-index-preserved
loop-index-preserved c =
    let w = c.loop-index in
    c.loop-index.invariant
    ∙ search_turn c.held-nodes.result.now c.args.s w.best c.if-far-best.best w.index _ c.distance-far.result c.loop-index-test.true c.distance-far.ensures
    (elim c.if-far-best.branch [
      | then-far-best w ↦ rw (w.best-is, w.if-far-best.true)
      | else-far-best w ↦ rw (w.best-is, w.if-far-best.false)
    ])

pub returns : goal.returns
returns c =
    sym (ap (λ l. nearest_of l c.args.s) (sym (held (goal.at.returns c).After-held-nodes)) ∙ c.loop-index.invariant ∙ search_end _ _ _ _ c.loop-index-test.false)
