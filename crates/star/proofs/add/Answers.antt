use Prim.Native.Nat.{◌+◌, ◌≤◌, ◌<◌}
use mathlib.Core.Path.{◌≡◌, ◌∙◌}
use native.Mathlib.Omega.{arith}
use lib.ListN.{length-set}
use Rattle.std.proofs.lemmas.List.Elements.{All-weaker}
use Rattle.tree.specs.Table.{pushed_of}
use Rattle.star.proofs.Adding.{newest, adds}
use Rattle.star.proofs.add.Goals as goal
use Rattle.star.proofs.add.Goals.{After-push}

-- the new node's number is the count before it
new : (c : After-push) → c.len-n.result ≡ c.args.tree.now.count
new c = let few : c.args.tree.now.count ≤ 512 = omega (arith, c.requires.0) in newest _ few c.len-n.ensures.sized _ c.len-n.ensures.nodes

pub offset_bounds-cost-n : goal.offset_bounds-cost-n
offset_bounds-cost-n c = omega (arith, new (goal.at.offset_bounds-cost-n c).After-push)

pub bounds-cost-n : goal.bounds-cost-n
bounds-cost-n c = omega (arith, new (goal.at.bounds-cost-n c).After-push)

pub rewire-requires : goal.rewire-requires
unfolding pushed_of
rewire-requires c =
    rw (c.push.ensures)
    (omega arith, omega arith, All-weaker (λ k. k < c.args.tree.now.count) (λ k. k < c.args.tree.now.count + 1) (λ k b. omega arith) _ c.find_neighbours-many.ensures.numbers, length-set _ _ _ ∙ c.requires.2)

pub returns : goal.returns
returns c =
    let w = rw c.push.ensures at c.rewire.ensures in
    adds _ _ _ _ _ _ _ c.requires.0 c.len-n.ensures.sized c.requires.2 _ _ c.find_neighbours-many.ensures _ c.choose_parent-choice.ensures _ (new (goal.at.returns c).After-push) _ _ w
