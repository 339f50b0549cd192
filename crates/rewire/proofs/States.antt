-- The states that the rewiring reads: those of the nodes before the new one.
use mathlib.Core.Bool.{not, ◌&&◌, cond}
use mathlib.Core.List.{List, [], ◌∷◌, ◌++◌, map}
use mathlib.Core.Path.{◌≡◌, refl, sym, ◌∙◌, ap}
use Prim.Native.Nat.{ℕ, ◌<◌}
use lib.Dec.{eqb}
use lib.ListN.{length, take, set}
use lib.Ieee.{Float, binary64, add, lt}
use Rattle.std.proofs.lemmas.List.{take-map, get_or_append_left}
use Rattle.std.proofs.lemmas.List.Elements.{All-head, All-tail}
use Rattle.state.specs.Distance.{distance_of}
use Rattle.state.specs.Rows.{nowhere, state_at}
use Rattle.state.specs.declared.State.{State}
use Rattle.fields.specs.declared.Limits.{Limits}
use Rattle.keep_out.specs.declared.KeepOut.{KeepOut}
use Rattle.motion.specs.Accepts.{accepts_of}
use Rattle.tree.specs.declared.Tree.{Tree}
use Rattle.tree.specs.Table.{state_in, states_of}
use Rattle.neighbours.specs.Neighbours.{Numbers}
use Rattle.choice.specs.declared.Choice.{Choice}
use Rattle.choice.specs.Parent.{cost_at}
use Rattle.rewire.specs.Rewiring.{Links, cost_under, moves, rewire_of}

-- trees whose places hold the same states
pub same_states : (t t' : Tree) → map state_in t'.nodes ≡ map state_in t.nodes → t'.count ≡ t.count → states_of t' ≡ states_of t
unfolding states_of
same_states t t' e n = rw n (sym (take-map state_in t.count t'.nodes) ∙ ap (take t.count) e ∙ take-map state_in t.count t.nodes)

module _ (limits : Limits) (segment : Float) (ks : List KeepOut) (states : List State) (x new : State) (choice : Choice) (number : ℕ) where
  abbrev rewired : List State → Links → List ℕ → Links
  rewired l links is = rewire_of limits segment ks l new choice number links is

  -- a state behind those of the neighbours is not read
  pub rewire_more : (links : Links) (is : List ℕ) → Numbers (length states) is → rewired (states ++ (x ∷ [])) links is ≡ rewired states links is
  unfolding rewire_of moves cost_under
  rewire_more links [] h = refl
  rewire_more links (i ∷ is) h =
      let low : i < length states = All-head (λ k. k < length states) i is h in
      let one : state_at (states ++ (x ∷ [])) i ≡ state_at states i = get_or_append_left states (x ∷ []) nowhere i low in
      ap (λ (s : State). rewired (states ++ (x ∷ [])) (next s) is) one ∙ rewire_more (next (state_at states i)) is (All-tail (λ k. k < length states) i is h)
    where
      next : State → Links
      next s =
          let under = add binary64 choice.cost (distance_of s new) in
          let moved : Links = record { parents = set links.parents i number; costs = set links.costs i under } in
          cond (not (eqb i choice.parent) && (lt under (cost_at links.costs i) && accepts_of limits segment ks new s)) moved links
