use lib.ListN.{length-set}
use native.Mathlib.Omega.{arith}
use Rattle.legs.proofs.Square.{mark_is}
use Rattle.legs.proofs.mark.Goals as goal

pub returns : goal.returns
returns c =
    let s = c in
    record { long = simp length-set; is = λ a b ha hb. mark_is s.args.rows.now s.args.i s.args.j (omega (arith, s.requires.2)) s.requires.1 a b hb }
