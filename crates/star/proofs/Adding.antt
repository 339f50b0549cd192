-- An accepted step's node is added: the calls, one after the other, give what the definition says.
use Prim.Native.Nat.{ℕ, ◌-◌, ◌≤◌, ◌<◌}
use mathlib.Core.List.{List, [], ◌∷◌, ◌++◌}
use mathlib.Core.Path.{◌≡◌, refl, ◌∙◌, ap}
use native.Mathlib.Omega.{arith}
use lib.ListN.{length, take, set}
use lib.Ieee.{Float}
use Rattle.std.proofs.lemmas.List.{take_more_set}
use Rattle.std.proofs.lemmas.List.Elements.{All-weaker}
use Rattle.state.specs.declared.State.{State}
use Rattle.fields.specs.declared.Limits.{Limits}
use Rattle.keep_out.specs.declared.KeepOut.{KeepOut}
use Rattle.tree.specs.declared.Tree.{Tree}
use Rattle.tree.specs.Table.{Nodes, nodes_in, nodes_of, states_of, grown_of, pushed_of}
use Rattle.tree.proofs.Nodes.{nodes_length, states_length}
use Rattle.tree.proofs.Push.{push_grows}
use Rattle.step.specs.declared.Stepped.{Stepped}
use Rattle.neighbours.specs.Neighbours.{neighbours_of, Found}
use Rattle.choice.specs.Parent.{choose_of}
use Rattle.choice.specs.declared.Choice.{Choice}
use Rattle.rewire.specs.Rewiring.{Links, rewire_of, links_of, Rewires}
use Rattle.rewire.proofs.States.{same_states, rewire_more}
use Rattle.star.specs.Grow.{Costed, tree_of, added_of, Adds}

-- the new node's number
pub newest : (t : Tree) → t.count ≤ 512 → length t.nodes ≡ 512 → (n : ℕ) → n ≡ length (nodes_of t).states → n ≡ t.count
newest t few sized n is = is ∙ nodes_length t (omega (arith, sized))

-- the neighbours, the choice, the append under the number n, and what the rewiring left
module _ (limits : Limits) (segment : Float) (ks : List KeepOut) (radius : Float) (t : Tree) (costs : List Float) (e : Stepped)
    (room : t.count < 512) (sized : length t.nodes ≡ 512) (cost_sized : length costs ≡ 512)
    (many : ℕ) (found : List ℕ) (f : Found radius e.at t.count (states_of t) many found)
    (choice : Choice) (chosen : choice ≡ choose_of limits segment ks (states_of t) (take t.count costs) e.at e.parent (take many found))
    (n : ℕ) (new : n ≡ t.count) (after : Tree) (costs' : List Float)
    (w : Rewires limits segment ks e.at choice (pushed_of t e.at choice.parent) (set costs n choice.cost) (take many found) after costs') where
  abbrev states : List State
  states = states_of t

  abbrev pushed : Tree
  pushed = pushed_of t e.at choice.parent

  abbrev choose : List ℕ → Choice
  choose l = choose_of limits segment ks states (take t.count costs) e.at e.parent l

  abbrev appended : Choice → Links
  appended c = record { parents = (nodes_of t).parents ++ (c.parent ∷ []); costs = take t.count costs ++ (c.cost ∷ []) }

  abbrev rewired : List State → Choice → ℕ → Links → List ℕ → Links
  rewired l c number before near = rewire_of limits segment ks l e.at c number before near

  abbrev with : List State → Links → Costed
  with l links = record { nodes = record { states = l; parents = links.parents }; costs = links.costs }

  long : length states ≡ t.count
  long = states_length t (omega (arith, sized))

  grown : nodes_of pushed ≡ grown_of (nodes_of t) e.at choice.parent
  grown = push_grows t e.at choice.parent (omega (arith, sized))

  more_states : states_of pushed ≡ states ++ (e.at ∷ [])
  unfolding states_of nodes_of nodes_in grown_of
  more_states = ap (λ (n : Nodes). n.states) grown

  more_links : links_of pushed (set costs n choice.cost) ≡ appended choice
  unfolding grown_of
  more_links = rw (grown, new) (unfold pushed_of in rw (take_more_set costs t.count choice.cost (omega (arith, cost_sized))))

  number : pushed.count - 1 ≡ length states
  unfolding pushed_of
  number = omega (arith, long)

  -- what the definition rewires
  abbrev defined : Links
  defined =
      let near = neighbours_of radius e.at states in
      rewired states (choose near) (length states) (appended (choose near)) near

  links : links_of after costs' ≡ defined
  links =
      w.is ∙ rw (number, more_states, more_links)
      (rewire_more limits segment ks states e.at e.at choice (length states) (appended choice) (take many found)
      (All-weaker (λ k. k < t.count) (λ k. k < length states) (λ k b. omega (arith, long)) _ f.numbers)
      ∙ ap (λ (c : Choice). rewired states c (length states) (appended c) (take many found)) chosen
      ∙ ap (λ (l : List ℕ). rewired states (choose l) (length states) (appended (choose l)) l) f.is)

  whole : tree_of after costs' ≡ with (states ++ (e.at ∷ [])) (links_of after costs')
  unfolding nodes_of nodes_in states_of
  whole = ap (λ (l : List State). with l (links_of after costs')) (same_states pushed after w.states w.count ∙ more_states)

  as_defined : with (states ++ (e.at ∷ [])) defined ≡ added_of limits segment ks radius (tree_of t costs) e
  unfolding added_of nodes_of nodes_in states_of
  as_defined = refl

  pub adds : Adds limits segment ks radius t costs e after costs' found
  unfolding pushed_of
  adds = record { is = whole ∙ ap (with (states ++ (e.at ∷ []))) links ∙ as_defined; count = w.count; sized = (w.cost_sized, f.sized) }
