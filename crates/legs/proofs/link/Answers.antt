use mathlib.Core.Bool.{Bool, ◌||◌, ◌&&◌}
use mathlib.Core.Path.{◌∙◌, ap}
use lib.Dec.{eqb}
use Rattle.legs.proofs.link.Goals as goal

pub returns : goal.returns
returns c =
    let first = c.mark.ensures in
    let second = c.mark-2.ensures in
    let a₀ = c.args in
    record {
      long = second.long ∙ first.long;
      is = λ a b ha hb. second.is a b ha hb ∙ ap (λ (x : Bool). x || (eqb a a₀.j && eqb b a₀.i)) (first.is a b ha hb);
    }
