use mathlib.Core.Path.{◌≡◌}
use lib.ListN.{length}
use borrow.Author.Rules.{rules}
use Rattle.laws.specs.Rest.{mapped}
use Rattle.roadmap.proofs.View.{held_many}
use Rattle.roadmap.proofs.Roadmap.held.Goals as goal

pub returns-clause-many : goal.returns-clause-many
returns-clause-many c =
    let long : length c.args.self.now.milestones ≡ 256 = search (mapped, rules) in
    rw (c.min-count.ensures) (held_many c.args.self.now long)
