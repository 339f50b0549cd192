-- The search for the neighbours: what holds when the node i is reached, and what one turn does to it. The distance stays a name.
use Prim.Native.Nat.{ℕ, ◌+◌, ◌≤◌, ◌<◌}
use mathlib.Core.Bool.{true, false, cond}
use mathlib.Core.List.{List, [], ◌∷◌, ◌++◌, map, append_assoc, append-nil}
use mathlib.Core.Path.{◌≡◌, refl, sym, ◌∙◌, ap}
use native.Mathlib.Omega.{arith}
use lib.ListN.{length, take, drop, get_or, set, length-set, length-take}
use lib.Ieee.{Float, lt}
use Rattle.std.proofs.Common.{add-one, drop-cons, drop_of_length-le}
use Rattle.std.proofs.lemmas.List.{take_more_set}
use Rattle.std.proofs.lemmas.List.Elements.{All-nil, All-push, All-same, All-weaker}
use Rattle.state.specs.Distance.{distance_of}
use Rattle.state.specs.declared.State.{State}
use Rattle.tree.specs.declared.Node.{Node}
use Rattle.tree.specs.declared.Tree.{Tree}
use Rattle.tree.specs.Table.{state_in, states_of}
use Rattle.neighbours.specs.Neighbours.{neighbours_from, neighbours_of, Numbers, Found}

module _ (radius : Float) (new : State) (nodes : List Node) where
  -- the neighbours among the nodes from i on
  abbrev later : ℕ → List ℕ
  later i = neighbours_from radius new i (map state_in (drop i nodes))

  pub record Finding (i many : ℕ) (found : List ℕ) : Type 0 where
    pub within : i ≤ length nodes
    pub few : many ≤ i
    pub sized : length found ≡ 512
    pub numbers : Numbers (length nodes) (take many found)
    pub is : neighbours_of radius new (map state_in nodes) ≡ take many found ++ later i

  pub finds_first : (found : List ℕ) → length found ≡ 512 → Finding 0 0 found
  unfolding neighbours_of
  finds_first found l = record { within = omega arith; few = omega arith; sized = l; numbers = All-nil (λ k. k < length nodes); is = refl }

module _ {radius : Float} {new : State} {nodes : List Node} {i many : ℕ} {found : List ℕ} (h : Finding radius new nodes i many found) where
  abbrev rest : ℕ → List ℕ
  rest = later radius new nodes

  -- the nodes are those of a tree, and none is left
  pub finds_all : (t : Tree) → nodes ≡ take t.count t.nodes → length nodes ≤ i → Found radius new t.count (states_of t) many found
  unfolding neighbours_from states_of
  finds_all t held e =
      let none : rest i ≡ [] = ap (λ (xs : List Node). neighbours_from radius new i (map state_in xs)) (drop_of_length-le nodes e) in
      let all : length nodes ≤ t.count = rw held (omega (arith, length-take t.count t.nodes)) in
      record {
        is =
            sym (append-nil (take many found)) ∙ ap (λ (l : List ℕ). take many found ++ l) (sym none) ∙ sym h.is
            ∙ ap (λ (xs : List Node). neighbours_of radius new (map state_in xs)) held;
        few = omega (arith, h.few, h.within);
        numbers = All-weaker (λ k. k < length nodes) (λ k. k < t.count) (λ k b. omega arith) _ h.numbers;
        sized = h.sized;
      }

  module _ (more : i < length nodes) (node : Node) {d : Float} (far : d ≡ distance_of new (get_or nodes i node).state) where
    turn : rest i ≡ cond (lt d radius) (i ∷ rest (i + 1)) (rest (i + 1))
    unfolding neighbours_from
    turn =
        let e : drop i nodes ≡ get_or nodes i node ∷ drop (i + 1) nodes = rw (add-one, drop-cons nodes i node more) in
        rw far (ap (λ (xs : List Node). neighbours_from radius new i (map state_in xs)) e)

    -- a neighbour goes behind those found so far
    pub finds_one : {found' : List ℕ} {many' : ℕ} → many < length found → lt d radius ≡ true → found' ≡ set found many i → many' ≡ many + 1 → Finding radius new nodes (i + 1) many' found'
    finds_one room t p q =
        let w : take (many + 1) (set found many i) ≡ take many found ++ (i ∷ []) = take_more_set found many i room in
        let one : rest i ≡ (i ∷ []) ++ rest (i + 1) = turn ∙ rw t in
        rw (p, q)
        record {
          within = omega arith;
          few = omega (arith, h.few);
          sized = length-set found many i ∙ h.sized;
          numbers = All-same (λ k. k < length nodes) _ _ w (All-push (λ k. k < length nodes) _ i h.numbers more);
          is = h.is ∙ ap (λ (l : List ℕ). take many found ++ l) one ∙ sym (append_assoc (take many found) (i ∷ []) (rest (i + 1))) ∙ rw w;
        }

    -- another node changes nothing
    pub finds_none : {found' : List ℕ} {many' : ℕ} → lt d radius ≡ false → found' ≡ found → many' ≡ many → Finding radius new nodes (i + 1) many' found'
    finds_none t p q =
        let none : rest i ≡ rest (i + 1) = turn ∙ rw t in
        rw (p, q)
        record { within = omega arith; few = omega (arith, h.few); sized = h.sized; numbers = h.numbers; is = h.is ∙ ap (λ (l : List ℕ). take many found ++ l) none }
