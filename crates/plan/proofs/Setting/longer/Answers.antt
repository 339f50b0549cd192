use mathlib.Core.Path.{◌≡◌, sym, ◌∙◌}
use borrow.Author.Rules.{rules}
use lib.ListN.{length}
use Rattle.laws.specs.Rest.{mapped}
use Rattle.plan.proofs.Adding.{added_bad, added}
use Rattle.plan.proofs.Setting.longer.Goals as goal

pub returns-then-not-is_good : goal.returns-then-not-is_good
returns-then-not-is_good c = added_bad _ _ (sym c.is_good.ensures ∙ c.if-not-is_good.true)

pub returns : goal.returns
returns c =
    let sized : length c.args.self.mount.table.slots ≡ 32 = search (mapped, rules) in
    rw (c.ok_or.ensures.value, c.with.ensures) (added _ sized _ (sym c.is_good.ensures ∙ c.if-not-is_good.false))
