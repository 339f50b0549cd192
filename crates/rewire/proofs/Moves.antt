-- The rewiring: what holds when the k-th neighbour is reached, and what one turn does to it. Distance and motion stay names.
use Prim.Native.Nat.{ℕ, ◌+◌, ◌-◌, ◌≤◌, ◌<◌}
use mathlib.Core.Bool.{Bool, true, false, not, ◌&&◌, cond}
use mathlib.Core.List.{List, ◌∷◌, map}
use mathlib.Core.Path.{◌≡◌, refl, sym, ◌∙◌, ap, ap₂}
use lib.Dec.{eqb}
use lib.ListN.{length, take, drop, get_or, set, length-set}
use lib.Seq.{get_or-take, take-set-lt}
use lib.Ieee.{Float, nan, binary64, add, lt}
use Rattle.std.proofs.Common.{add-one, drop-cons, drop_of_length-le}
use Rattle.std.proofs.Math.Seq.{map-set_same}
use Rattle.std.proofs.lemmas.List.{map-set}
use Rattle.state.specs.Distance.{distance_of}
use Rattle.state.specs.Rows.{state_at}
use Rattle.state.specs.declared.State.{State}
use Rattle.fields.specs.declared.Limits.{Limits}
use Rattle.keep_out.specs.declared.KeepOut.{KeepOut}
use Rattle.motion.specs.Accepts.{accepts_of}
use Rattle.tree.specs.declared.Node.{Node}
use Rattle.tree.specs.declared.Tree.{Tree}
use Rattle.tree.specs.Table.{state_in, parent_in, nodes_in, nodes_of, states_of}
use Rattle.tree.proofs.Nodes.{state_is}
use Rattle.choice.specs.declared.Choice.{Choice}
use Rattle.rewire.specs.Rewiring.{Links, cost_under, moves, rewire_of, links_of, Rewires}
use Rattle.rewire.proofs.States.{same_states}

module _ (limits : Limits) (segment : Float) (ks : List KeepOut) (new : State) (choice : Choice) (before : Tree) (costs₀ : List Float) (neighbours : List ℕ) where
  -- the links when some neighbours are rewired
  abbrev among : Links → List ℕ → Links
  among = rewire_of limits segment ks (states_of before) new choice (before.count - 1)

  -- and those from k on
  abbrev from : Links → ℕ → Links
  from links k = among links (drop k neighbours)

  pub record Moving (k : ℕ) (t : Tree) (costs : List Float) : Type 0 where
    pub is : among (links_of before costs₀) neighbours ≡ from (links_of t costs) k
    pub states : map state_in t.nodes ≡ map state_in before.nodes
    pub count : t.count ≡ before.count
    pub cost_sized : length costs ≡ 512

module _ {limits : Limits} {segment : Float} {ks : List KeepOut} {new : State} {choice : Choice} {before : Tree} {costs₀ : List Float} {neighbours : List ℕ} {k : ℕ} {t : Tree}
    {costs : List Float} (h : Moving limits segment ks new choice before costs₀ neighbours k t costs) where
  abbrev rewired : Links → List ℕ → Links
  rewired = among limits segment ks new choice before costs₀ neighbours

  abbrev rest : Links → ℕ → Links
  rest = from limits segment ks new choice before costs₀ neighbours

  pub moves_last : length neighbours ≤ k → Rewires limits segment ks new choice before costs₀ neighbours t costs
  unfolding rewire_of
  moves_last e =
      record { is = sym (h.is ∙ ap (rewired (links_of t costs)) (drop_of_length-le neighbours e)); states = h.states; count = h.count; cost_sized = h.cost_sized }

  -- one turn, at the neighbour i
  module _ (more : k < length neighbours) (n i : ℕ) (here : i ≡ get_or neighbours k n) (below : i < t.count) (room : t.count ≤ length t.nodes) (d : Node) where
    abbrev state : State
    state = (get_or t.nodes i d).state

    -- the links after it, by its state and its cost
    abbrev after : State → Float → Links
    after s c =
        let under = add binary64 choice.cost (distance_of s new) in
        let links = links_of t costs in
        let moved : Links = record { parents = set links.parents i (before.count - 1); costs = set links.costs i under } in
        cond (not (eqb i choice.parent) && (lt under c && accepts_of limits segment ks new s)) moved links

    turn : rewired (links_of before costs₀) neighbours ≡ rest (after state (get_or costs i nan)) (k + 1)
    unfolding rewire_of moves cost_under
    turn =
        let split : drop k neighbours ≡ i ∷ drop (k + 1) neighbours = rw (here, add-one, drop-cons neighbours k n more) in
        let at : state_at (states_of before) i ≡ state = rw (← same_states before t h.states h.count) (state_is t room i d below) in
        h.is ∙ ap (rewired (links_of t costs)) split ∙ ap₂ (λ (s : State) (c : Float). rest (after s c) (k + 1)) at (get_or-take t.count costs i nan below)

    -- its distance, and whether the motion from the new state is accepted
    module _ (far : Float) (is : far ≡ distance_of state new) (ok : Bool) (a : ok ≡ accepts_of limits segment ks new state) where
      abbrev under : Float
      under = add binary64 choice.cost far

      abbrev moving : Bool
      moving = not (eqb i choice.parent) && (lt under (get_or costs i nan) && ok)

      abbrev Next : Tree → List Float → Type 0
      Next t' costs' = Moving limits segment ks new choice before costs₀ neighbours (k + 1) t' costs'

      pub stays : (t' : Tree) (costs' : List Float) → moving ≡ false → t' ≡ t → costs' ≡ costs → Next t' costs'
      stays t' costs' e p q = rw (p, q) record { is = turn ∙ rw (← is, ← a, e); states = h.states; count = h.count; cost_sized = h.cost_sized }

      abbrev moved : Tree
      moved = record { nodes = set t.nodes i (record { state = state; parent = before.count - 1 }); count = t.count }

      moved_links : links_of moved (set costs i under) ≡ record { parents = set (links_of t costs).parents i (before.count - 1); costs = set (links_of t costs).costs i under }
      unfolding nodes_of nodes_in
      moved_links = rw (take-set-lt t.count t.nodes i _ below, take-set-lt t.count costs i under below, map-set parent_in (take t.count t.nodes) i _)

      pub goes : (t' : Tree) (costs' : List Float) → moving ≡ true → t' ≡ moved → costs' ≡ set costs i under → Next t' costs'
      goes t' costs' e p q =
          rw (p, q)
          record {
            is = turn ∙ rw (← is, ← a, e) (ap (λ (l : Links). rest l (k + 1)) (sym moved_links));
            states = map-set_same state_in t.nodes i _ d refl ∙ h.states;
            count = h.count;
            cost_sized = length-set costs i under ∙ h.cost_sized;
          }
