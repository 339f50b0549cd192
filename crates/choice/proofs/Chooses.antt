-- The choice of the parent: what one turn of the walk over the neighbours does to the definition. Distance and motion stay names.
use Prim.Native.Nat.{ℕ, ◌+◌, ◌≤◌, ◌<◌}
use mathlib.Core.Bool.{Bool, ◌&&◌, cond}
use mathlib.Core.List.{List, ◌∷◌}
use mathlib.Core.Path.{◌≡◌, sym, ◌∙◌, ap, ap₂}
use lib.ListN.{length, take, drop, get_or}
use lib.Seq.{get_or-take}
use lib.Ieee.{Float, nan, binary64, add, lt}
use Rattle.std.proofs.Common.{add-one, drop-cons, drop_of_length-le}
use Rattle.state.specs.Distance.{distance_of}
use Rattle.state.specs.Rows.{state_at}
use Rattle.state.specs.declared.State.{State}
use Rattle.fields.specs.declared.Limits.{Limits}
use Rattle.keep_out.specs.declared.KeepOut.{KeepOut}
use Rattle.motion.specs.Accepts.{accepts_of}
use Rattle.tree.specs.declared.Node.{Node}
use Rattle.tree.specs.declared.Tree.{Tree}
use Rattle.tree.specs.Table.{states_of}
use Rattle.tree.proofs.Nodes.{state_is}
use Rattle.choice.specs.declared.Choice.{Choice}
use Rattle.choice.specs.Parent.{cost_via, is_better, choose_from, choose_of}

module _ (limits : Limits) (segment : Float) (ks : List KeepOut) (t : Tree) (costs : List Float) (new : State) (neighbours : List ℕ) where
  -- the choice among some neighbours, with the best so far
  abbrev among : Choice → List ℕ → Choice
  among = choose_from limits segment ks (states_of t) (take t.count costs) new

  -- and among those from k on
  abbrev pub choice_at : Choice → ℕ → Choice
  choice_at best k = among best (drop k neighbours)

  pub choice_end : (best : Choice) (k : ℕ) → length neighbours ≤ k → choice_at best k ≡ best
  unfolding choose_from
  choice_end best k h = ap (among best) (drop_of_length-le neighbours h)

  -- the node i, and its distance from the new state
  module _ (room : t.count ≤ length t.nodes) (i : ℕ) (d : Node) (far : Float) (below : i < t.count) (is : far ≡ distance_of new (get_or t.nodes i d).state) where
    -- what the new state costs under it
    abbrev via : Float
    via = add binary64 (get_or costs i nan) far

    via_is : cost_via (states_of t) (take t.count costs) new i ≡ via
    unfolding cost_via
    via_is = ap₂ (add binary64) (get_or-take t.count costs i nan below) (ap (distance_of new) (state_is t room i d below) ∙ sym is)

    pub choice_first : choose_of limits segment ks (states_of t) (take t.count costs) new i neighbours ≡ choice_at (record { parent = i; cost = via }) 0
    unfolding choose_of
    choice_first = ap (λ (c : Float). choice_at (record { parent = i; cost = c }) 0) via_is

    -- it is the k-th neighbour, and the motion from it to the new state is accepted or not
    module _ (k n : ℕ) (more : k < length neighbours) (here : i ≡ get_or neighbours k n) (ok : Bool) (a : ok ≡ accepts_of limits segment ks (get_or t.nodes i d).state new) where
      abbrev better : Choice → Float → Bool → Choice
      better best c b = cond (lt c best.cost && b) (record { parent = i; cost = c }) best

      turn : (best : Choice) → choice_at best k ≡ choice_at (better best via ok) (k + 1)
      unfolding choose_from is_better
      turn best =
          let split : drop k neighbours ≡ i ∷ drop (k + 1) neighbours = rw (here, add-one, drop-cons neighbours k n more) in
          let accepted : accepts_of limits segment ks (state_at (states_of t) i) new ≡ ok = rw (state_is t room i d below) (sym a) in
          ap (among best) split ∙ ap₂ (λ (c : Float) (b : Bool). choice_at (better best c b) (k + 1)) via_is accepted

      pub choice_turn : (best best' : Choice) → better best via ok ≡ best' → choice_at best k ≡ choice_at best' (k + 1)
      choice_turn best best' e = turn best ∙ ap (λ (b : Choice). choice_at b (k + 1)) e
