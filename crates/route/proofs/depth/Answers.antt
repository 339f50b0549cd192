use mathlib.Core.Path.{◌≡◌}
use native.Mathlib.Omega.{arith}
use lib.ListN.{length}
use borrow.Author.Rules.{rules}
use Rattle.laws.specs.Rest.{mapped}
use Rattle.route.proofs.View.{nodes_many, parent_in}
use Rattle.route.proofs.Climb.{climb_starts, climb_turn, climb_ends, climb_all}
use Rattle.route.proofs.depth.Goals as goal

pub loop-n-init : goal.loop-n-init
loop-n-init c =
    let t = c.args.tree.now in
    let sized : length t.nodes ≡ 512 = search (mapped, rules) in
    climb_starts (nodes_many t sized c.requires.1) (parent_in t sized c.requires.1 c.requires.0 _)

pub loop-n-preserved : goal.loop-n-preserved
loop-n-preserved c =
    let t = c.args.tree.now in
    let sized : length t.nodes ≡ 512 = search (mapped, rules) in
    let up = c.if-tree-parent.false in
    climb_turn (nodes_many t sized c.requires.1) c.loop-n.invariant c.loop-n-test.true up (parent_in t sized c.requires.1 up _)

pub returns-then-tree-parent : goal.returns-then-tree-parent
returns-then-tree-parent c =
    let t = c.args.tree.now in
    let sized : length t.nodes ≡ 512 = search (mapped, rules) in
    climb_ends (nodes_many t sized c.requires.1) c.loop-n.invariant (omega arith) c.if-tree-parent.true

pub returns : goal.returns
returns c =
    let t = c.args.tree.now in
    let sized : length t.nodes ≡ 512 = search (mapped, rules) in
    climb_all (nodes_many t sized c.requires.1) c.loop-n.invariant (omega arith)
