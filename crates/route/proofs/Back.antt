-- The writing of a route from its end: what one turn of the loop does, and what stands in the memory at the end.
use Prim.Native.Nat.{ℕ, ◌+◌, ◌-◌, ◌*◌, ◌≤◌, ◌<◌}
use mathlib.Core.List.{List, [], ◌∷◌, ◌++◌}
use mathlib.Core.Path.{◌≡◌, refl, sym, ◌∙◌, ap}
use native.Mathlib.Omega.{arith}
use lib.ListN.{length, take, drop, take-append-drop}
use lib.Ieee.{Float}
use Rattle.state.specs.declared.State.{State}
use Rattle.state.specs.Rows.{state_at}
use Rattle.tree.specs.Table.{Nodes, parent_at}
use Rattle.route.specs.Path.{climb_of, path_of, Depth}
use Rattle.route.specs.Written.{flat_of, put_of, written_of}
use Rattle.route.proofs.Climb.{Up, goes_up, ends_here}
use Rattle.route.proofs.Stores.{placed}

-- `left` of the n states are still to be written, that of the node `at` next; those after it are written
pub record Behind (nodes : Nodes) (node n : ℕ) (old : List Float) (at left : ℕ) (out : List Float) : Type 0 where
  pub whole : n ≡ length (path_of nodes node)
  pub room : 3 * n ≤ length old
  pub some : 0 < left
  pub after : List State
  pub fuel : ℕ
  pub many : length after + left ≡ n
  pub is : path_of nodes node ≡ climb_of fuel nodes at after
  pub memory : out ≡ take (3 * left) old ++ (flat_of after ++ drop (3 * n) old)

pub back_starts : {nodes : Nodes} {node n : ℕ} (old : List Float) → Depth nodes node n → 3 * n ≤ length old → Behind nodes node n old node n old
unfolding path_of flat_of
back_starts {nodes} {node} {n} old d h =
    record {
      whole = d.is;
      room = h;
      some = d.some;
      after = [];
      fuel = length nodes.states - 1;
      many = omega arith;
      is = refl;
      memory = sym (take-append-drop (3 * n) old);
    }

-- s is the state of the node `at`
module _ {nodes : Nodes} {node n : ℕ} {old : List Float} {at left : ℕ} {out : List Float} (w : Behind nodes node n old at left out)
    {s : State} (is-s : state_at nodes.states at ≡ s) where
  -- a state that is not the first
  module _ (more : 1 < left) where
    up : Up w.fuel nodes at w.after
    up = goes_up w.fuel nodes at w.after (omega (arith, ap length w.is, w.many, w.whole))

    stored : (new : List Float) → new ≡ put_of out (3 * (left - 1)) s → new ≡ take (3 * (left - 1)) old ++ (flat_of (s ∷ w.after) ++ drop (3 * n) old)
    stored new e =
        let q : 3 * left ≡ 3 * (left - 1) + 3 = omega arith in
        let m : out ≡ take (3 * (left - 1) + 3) old ++ (flat_of w.after ++ drop (3 * n) old) = rw (← q) w.memory in
        e ∙ placed old (3 * (left - 1)) (3 * n) s w.after out (omega (arith, w.many, w.room)) m

    module _ {p : ℕ} (is-p : parent_at nodes at ≡ p) where
      -- its parent is a node
      pub parent_node : p < length nodes.states
      parent_node = omega (arith, up.node, is-p)

      pub back_turn : {new : List Float} → new ≡ put_of out (3 * (left - 1)) s → Behind nodes node n old p (left - 1) new
      back_turn {new} e =
          record {
            whole = w.whole;
            room = w.room;
            some = omega arith;
            after = s ∷ w.after;
            fuel = up.less;
            many = omega (arith, w.many);
            is = w.is ∙ up.is ∙ ap (λ (x : ℕ). climb_of up.less nodes x (state_at nodes.states at ∷ w.after)) is-p
                ∙ ap (λ (x : State). climb_of up.less nodes p (x ∷ w.after)) is-s;
            memory = stored new e;
          }

  -- the first
  module _ (last : left ≤ 1) where
    path_is : path_of nodes node ≡ s ∷ w.after
    path_is =
        w.is ∙ ends_here w.fuel nodes at w.after (omega (arith, ap length w.is, w.many, w.whole, w.some))
        ∙ ap (λ (x : State). x ∷ w.after) is-s

    pub back_ends : {new : List Float} → new ≡ put_of out 0 s → new ≡ written_of (path_of nodes node) old
    unfolding written_of
    back_ends {new} e =
        let q : 3 * left ≡ 0 + 3 = omega (arith, w.some) in
        let m : out ≡ take (0 + 3) old ++ (flat_of w.after ++ drop (3 * n) old) =
        w.memory ∙ ap (λ (k : ℕ). take k old ++ (flat_of w.after ++ drop (3 * n) old)) q in
        let d : new ≡ flat_of (s ∷ w.after) ++ drop (3 * n) old = e ∙ placed old 0 (3 * n) s w.after out (omega (arith, w.many, w.room, w.some)) m in
        d ∙ ap (λ (l : List State). flat_of l ++ drop (3 * n) old) (sym path_is) ∙ ap (λ (k : ℕ). flat_of (path_of nodes node) ++ drop (3 * k) old) w.whole
