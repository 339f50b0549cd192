use mathlib.Core.Path.{◌≡◌, ◌∙◌}
use native.Mathlib.Omega.{arith}
use lib.ListN.{length}
use borrow.Author.Rules.{rules}
use Rattle.laws.specs.Rest.{mapped}
use Rattle.roadmap.proofs.View.{size_few, leg_is, leg_past, leg_none}
use Rattle.roadmap.proofs.Roadmap.has_leg.Goals as goal
use Rattle.roadmap.proofs.Roadmap.has_leg.Goals.{then-i-count, else-i-count}
use Rattle.std.proofs.Common.{◌≤◌, le-ltb}

pub leg-requires : goal.leg-requires
leg-requires c =
    let long : length c.args.self.now.milestones ≡ 256 = search (mapped, rules) in
    let few = size_few c.args.self.now long _ c.size-count.ensures in
    (omega arith, omega arith)

pub returns-then-j-count : goal.returns-then-j-count
returns-then-j-count c =
    let long : length c.args.self.now.milestones ≡ 256 = search (mapped, rules) in
    c.leg.ensures ∙ leg_is c.args.self.now long _ c.size-count.ensures _ _ c.if-j-count.true.0 c.if-j-count.true.1

pub returns-else-j-count : goal.returns-else-j-count
returns-else-j-count c =
    let long : length c.args.self.now.milestones ≡ 256 = search (mapped, rules) in
    let m = c.args.self.now in
    elim c.if-i-count.branch [
      | then-i-count w ↦ let past : c.size-count.result ≤ c.args.j = omega arith in w.t-6-is ∙ le-ltb _ _ past ∙ leg_past m long _ c.size-count.ensures _ _ w.if-i-count.true past
      | else-i-count w ↦ w.t-6-is ∙ le-ltb _ _ w.if-i-count.false ∙ leg_none m long _ c.size-count.ensures _ _ w.if-i-count.false
    ]
