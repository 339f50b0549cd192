use mathlib.Core.Bool.{false}
use mathlib.Core.Path.{◌≡◌}
use lib.Dec.{eqb}
use Rattle.std.proofs.Common.{rules}
use Rattle.answer.specs.Number.{number_of}
use Rattle.prm.proofs.Adds.{add_refused}
use Rattle.prm.proofs.Prm.add_keep_out.Goals as goal

pub returns-else-eq : goal.returns-else-eq
returns-else-eq c =
    let refusal : eqb (number_of c.add_keep_out-answer.result) 0 ≡ false = search rules in
    add_refused _ _ c.if-not-self.false _ _ c.add_keep_out-answer.ensures refusal
