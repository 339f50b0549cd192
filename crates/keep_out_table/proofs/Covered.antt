-- Whether a table covers a state, asked of its places.
use mathlib.Core.Bool.{Bool}
use mathlib.Core.List.{List, [], ◌∷◌, map}
use mathlib.Core.Path.{◌≡◌, refl}
use lib.ListN.{take}
use Rattle.std.specs.List.{list_any}
use Rattle.state.specs.declared.State.{State}
use Rattle.keep_out.specs.Covers.{covers_of, covered_of}
use Rattle.keep_out_table.specs.declared.Slot.{Slot}
use Rattle.keep_out_table.specs.declared.KeepOuts.{KeepOuts}
use Rattle.keep_out_table.specs.Table.{keep_outs_of}

any_map : {X Y : Type 0} (p : X → Bool) (h : Y → X) (ys : List Y) → list_any p (map h ys) ≡ list_any (λ y. p (h y)) ys
any_map p h [] = refl
any_map p h (y ∷ ys) = rw (any_map p h ys)

-- the keep-out of a place covers the state
abbrev pub hits : State → Slot → Bool
hits s slot = covers_of slot.held s

pub covered_held : (t : KeepOuts) (s : State) → covered_of (keep_outs_of t) s ≡ list_any (hits s) (take t.count t.slots)
unfolding covered_of keep_outs_of
covered_held t s = any_map (λ k. covers_of k s) (λ slot. slot.held) (take t.count t.slots)
