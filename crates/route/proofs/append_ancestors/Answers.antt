use mathlib.Core.Path.{◌≡◌}
use native.Mathlib.Omega.{arith}
use lib.ListN.{length}
use borrow.Author.Rules.{rules}
use Rattle.laws.specs.Rest.{mapped}
use Rattle.route.proofs.View.{nodes_many, state_in, parent_in}
use Rattle.route.proofs.Upwards.{up_starts, up_turn, up_ends, up_all}
use Rattle.route.proofs.append_ancestors.Goals as goal

pub loop-k-init : goal.loop-k-init
loop-k-init c =
    let t = c.args.tree.now in
    let sized : length t.nodes ≡ 512 = search (mapped, rules) in
    up_starts (nodes_many t sized c.requires.1) (parent_in t sized c.requires.1 c.requires.0 _)

pub loop-k-preserved : goal.loop-k-preserved
loop-k-preserved c =
    let t = c.args.tree.now in
    let sized : length t.nodes ≡ 512 = search (mapped, rules) in
    let up = c.if-tree-here.false in
    up_turn (nodes_many t sized c.requires.1) c.loop-k.invariant (omega arith) up (omega arith)
    (parent_in t sized c.requires.1 up _) (state_in t sized c.requires.1 up _) c.put.ensures

pub returns-then-tree-here : goal.returns-then-tree-here
returns-then-tree-here c =
    let t = c.args.tree.now in
    let sized : length t.nodes ≡ 512 = search (mapped, rules) in
    up_ends (nodes_many t sized c.requires.1) c.loop-k.invariant (omega arith) c.if-tree-here.true

pub returns : goal.returns
returns c =
    let t = c.args.tree.now in
    let sized : length t.nodes ≡ 512 = search (mapped, rules) in
    up_all (nodes_many t sized c.requires.1) c.loop-k.invariant (omega arith) (omega arith)
