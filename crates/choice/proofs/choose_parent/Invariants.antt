use Rattle.std.proofs.Common.{◌≡◌, take}
use Rattle.keep_out_table.specs.Table.{keep_outs_of}
use Rattle.tree.specs.Table.{states_of}
use Rattle.choice.specs.Parent.{choose_of}
use Rattle.choice.proofs.Chooses.{choice_at}
use Rattle.choice.proofs.choose_parent.Given as goal

-- what the choice is rests on the neighbours from this one on
abbrev pub invariant-loop-i : goal.invariant-loop-i
invariant-loop-i l =
    let ks = keep_outs_of l.mount.table in
    choose_of l.mount.limits l.mount.segment.value ks (states_of l.tree) (take l.tree.count l.cost) l.new l.nearest l.neighbours
    ≡ choice_at l.mount.limits l.mount.segment.value ks l.tree l.cost l.new l.neighbours l.best l.i-index
