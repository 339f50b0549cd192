use Prim.Native.Nat.{◌*◌, ◌≤◌}
use mathlib.Core.Path.{◌≡◌}
use native.Mathlib.Omega.{arith}
use lib.ListN.{length}
use borrow.Author.Rules.{rules}
use Rattle.laws.specs.Rest.{mapped}
use Rattle.route.proofs.View.{nodes_few, state_in, parent_in}
use Rattle.route.proofs.Back.{back_starts, parent_node, back_turn, back_ends}
use Rattle.route.proofs.reconstruct_path.Goals as goal

pub loop-place-init : goal.loop-place-init
loop-place-init c =
    let d = c.depth-count.ensures in
    let room : 3 * c.depth-count.result ≤ length c.args.route.now = omega (arith, d.few, nodes_few c.args.tree.now) in
    (c.requires.0, back_starts _ d room)

pub loop-place-preserved : goal.loop-place-preserved
loop-place-preserved c =
    let t = c.args.tree.now in
    let sized : length t.nodes ≡ 512 = search (mapped, rules) in
    let h = c.loop-place.invariant in
    let is-s = state_in t sized c.requires.1 h.0 _ in
    let is-p = parent_in t sized c.requires.1 h.0 _ in
    let node = parent_node h.1 is-s c.loop-place-test.true is-p in
    (omega (arith, node, nodes_few t), back_turn h.1 is-s c.loop-place-test.true is-p c.put.ensures)

pub returns : goal.returns
returns c =
    let t = c.args.tree.now in
    let sized : length t.nodes ≡ 512 = search (mapped, rules) in
    let h = c.loop-place.invariant in
    let is-s = state_in t sized c.requires.1 h.0 _ in
    record { count = h.1.whole; memory = back_ends h.1 is-s c.loop-place-test.false c.put-2.ensures; few = c.depth-count.ensures.few }
