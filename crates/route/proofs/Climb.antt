-- The climb from a node to the root: where it goes on, where it ends, and how many states it adds.
use Prim.Native.Nat.{ℕ, zero, suc, ◌+◌, ◌-◌, ◌≤◌, ◌<◌}
use mathlib.Core.List.{List, [], ◌∷◌}
use mathlib.Core.Path.{◌≡◌, refl, sym, ◌∙◌, ap, subst}
use native.Mathlib.Omega.{arith}
use borrow.Author.Tests.{lt-ltb, le-ltb, ltb-true, ltb-false}
use lib.Dec.{ltb}
use lib.ListN.{length}
use Rattle.laws.specs.Order.{whether}
use Rattle.state.specs.declared.State.{State}
use Rattle.state.specs.Rows.{state_at}
use Rattle.tree.specs.Table.{Nodes, parent_at}
use Rattle.route.specs.Path.{climb_of, path_of, Depth}

module _ (nodes : Nodes) (k : ℕ) (after : List State) where
  abbrev here : List State
  here = state_at nodes.states k ∷ after

  -- with no fuel, or at a parent that is no node, it ends
  pub climb_out : climb_of 0 nodes k after ≡ here
  unfolding climb_of
  climb_out = refl

  pub climb_top : (f : ℕ) → length nodes.states ≤ parent_at nodes k → climb_of f nodes k after ≡ here
  unfolding climb_of
  climb_top zero h = refl
  climb_top (suc f) h = rw (le-ltb (parent_at nodes k) (length nodes.states) h)

  -- else it goes on at the parent
  pub climb_up : (f : ℕ) → parent_at nodes k < length nodes.states → climb_of (suc f) nodes k after ≡ climb_of f nodes (parent_at nodes k) here
  unfolding climb_of
  climb_up f h = rw (lt-ltb (parent_at nodes k) (length nodes.states) h)

-- it adds a state at least
pub longer : (f : ℕ) (nodes : Nodes) (k : ℕ) (after : List State) → length after < length (climb_of f nodes k after)
unfolding climb_of
longer zero nodes k after = omega arith
longer (suc f) nodes k after =
    let l = longer f nodes (parent_at nodes k) (state_at nodes.states k ∷ after) in
    whether (ltb (parent_at nodes k) (length nodes.states)) (λ e. rw e (omega (arith, l))) (λ e. rw e (omega arith))

-- where it adds more than one, it goes on at the parent, which is a node
pub record Up (f : ℕ) (nodes : Nodes) (k : ℕ) (after : List State) : Type 0 where
  pub less : ℕ
  pub node : parent_at nodes k < length nodes.states
  pub is : climb_of f nodes k after ≡ climb_of less nodes (parent_at nodes k) (state_at nodes.states k ∷ after)

pub goes_up : (f : ℕ) (nodes : Nodes) (k : ℕ) (after : List State) → length after + 1 < length (climb_of f nodes k after) → Up f nodes k after
goes_up zero nodes k after h = absurd (none (rw (climb_out nodes k after) at h))
  where
    none : length after + 1 < suc (length after) → ⊥
    none h = omega arith
goes_up (suc f) nodes k after h =
    whether (ltb (parent_at nodes k) (length nodes.states))
    (λ e. let l = ltb-true (parent_at nodes k) (length nodes.states) e in record { less = f; node = l; is = climb_up nodes k after f l })
    (λ e. absurd (none (rw (climb_top nodes k after (suc f) (ltb-false (parent_at nodes k) (length nodes.states) e)) at h)))
  where
    none : length after + 1 < suc (length after) → ⊥
    none h = omega arith

-- where it adds one, that is the node's own
pub ends_here : (f : ℕ) (nodes : Nodes) (k : ℕ) (after : List State) → length (climb_of f nodes k after) ≡ length after + 1 → climb_of f nodes k after ≡ state_at nodes.states k ∷ after
ends_here zero nodes k after h = climb_out nodes k after
ends_here (suc f) nodes k after h =
    whether (ltb (parent_at nodes k) (length nodes.states))
    (λ e. absurd (none (longer f nodes (parent_at nodes k) (state_at nodes.states k ∷ after)) (sym (ap length (climb_up nodes k after f (ltb-true _ _ e))) ∙ h)))
    (λ e. climb_top nodes k after (suc f) (ltb-false (parent_at nodes k) (length nodes.states) e))
  where
    none :
        suc (length after) < length (climb_of f nodes (parent_at nodes k) (state_at nodes.states k ∷ after)) →
        length (climb_of f nodes (parent_at nodes k) (state_at nodes.states k ∷ after)) ≡ length after + 1 → ⊥
    none h e = omega arith

-- The search for the depth, from the node `node` of `count`: n states up to the node `at`, whose parent is `parent`, are counted.
pub record Climbed (nodes : Nodes) (node count parent n : ℕ) : Type 0 where
  pub at : ℕ
  pub after : List State
  pub up : parent_at nodes at ≡ parent
  pub many : length after + 1 ≡ n
  pub is : path_of nodes node ≡ climb_of (count - n) nodes at after

module _ {nodes : Nodes} {count : ℕ} (whole : length nodes.states ≡ count) where
  pub climb_starts : {node parent : ℕ} → parent_at nodes node ≡ parent → Climbed nodes node count parent 1
  unfolding path_of
  climb_starts {node} e = record { at = node; after = []; up = e; many = refl; is = rw whole }

  module _ {node parent n : ℕ} (w : Climbed nodes node count parent n) where
    -- one step up
    pub climb_turn : {p : ℕ} → n < count → parent < count → parent_at nodes parent ≡ p → Climbed nodes node count p (n + 1)
    climb_turn h l e =
        let f : count - n ≡ suc (count - (n + 1)) = omega arith in
        let l' : parent_at nodes w.at < length nodes.states = rw w.up (omega arith) in
        record {
          at = parent;
          after = state_at nodes.states w.at ∷ w.after;
          up = e;
          many = omega (arith, w.many);
          is = w.is ∙ ap (λ (x : ℕ). climb_of x nodes w.at w.after) f ∙ climb_up nodes w.at w.after (count - (n + 1)) l'
              ∙ ap (λ (x : ℕ). climb_of (count - (n + 1)) nodes x (state_at nodes.states w.at ∷ w.after)) w.up;
        }

    climbed : n ≤ count → path_of nodes node ≡ state_at nodes.states w.at ∷ w.after → Depth nodes node n
    climbed h e = record { is = sym (ap length e ∙ omega (arith, w.many)); some = omega (arith, w.many); few = omega arith }

    -- at a parent that is no node, or after all nodes
    pub climb_ends : n ≤ count → count ≤ parent → Depth nodes node n
    climb_ends h l =
        let past : length nodes.states ≤ parent_at nodes w.at = rw w.up (omega arith) in
        climbed h (w.is ∙ climb_top nodes w.at w.after (count - n) past)

    pub climb_all : n ≡ count → Depth nodes node count
    climb_all e =
        let none : count - n ≡ 0 = omega arith in
        subst (Depth nodes node) e (climbed (omega arith) (w.is ∙ ap (λ (x : ℕ). climb_of x nodes w.at w.after) none ∙ climb_out nodes w.at w.after))
