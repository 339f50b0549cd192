-- One sample, from what the code has of it.
use Prim.Native.Nat.{ℕ, ◌≤◌, ◌<◌}
use mathlib.Core.Bool.{true, false, not}
use mathlib.Core.List.{List}
use mathlib.Core.Path.{◌≡◌, refl, ◌∙◌, ap}
use native.Mathlib.Omega.{arith}
use borrow.Author.Tests.{lt-ltb, le-ltb}
use lib.ListN.{length}
use lib.Ieee.{Float}
use Rattle.state.specs.declared.State.{State}
use Rattle.fields.specs.declared.Limits.{Limits}
use Rattle.keep_out.specs.declared.KeepOut.{KeepOut}
use Rattle.tree.specs.declared.Tree.{Tree}
use Rattle.tree.specs.Table.{nodes_of, states_of}
use Rattle.tree.proofs.Nodes.{states_few, states_are, nodes_length}
use Rattle.nearest.specs.Nearest.{nearest_of}
use Rattle.nearest.proofs.Below.{nearest_below}
use Rattle.step.specs.Step.{step_from, step_of}
use Rattle.step.specs.declared.Stepped.{Stepped}
use Rattle.extend.specs.declared.Verdict.{Verdict}
use Rattle.extend.specs.declared.Verdict.TheVariants.{Refused, Full, Added}
use Rattle.star.specs.Grow.{Reach, Costed, tree_of, added_of, Step, after_step, grow_of, grown_with, Adds, Grows}

-- the nearest node is one of the tree
pub nearest_is_one :
    (limits : Limits) (segment : Float) (ks : List KeepOut) (max : Float) (t : Tree) → 0 < t.count → (sample : State) (e : Stepped) →
    e ≡ step_of limits segment ks max (states_of t) sample → e.parent < t.count
nearest_is_one limits segment ks max t some sample e is = rw (ap (λ (x : Stepped). x.parent) is ∙ found) (nearest_below (states_of t) sample t.count some (states_few t))
  where
    found : (step_of limits segment ks max (states_of t) sample).parent ≡ (nearest_of (states_of t) sample).index
    found = unfold step_of step_from in refl

-- a tree with its costs, and its step toward a sample
module _ (p : Reach) (t : Tree) (costs : List Float) (found : List ℕ) (asked : (0 < t.count) × (t.count ≤ 512) × (length costs ≡ 512) × (length found ≡ 512)) (sample : State)
    (e : Stepped) (is : e ≡ step_of p.limits p.segment p.keep_outs p.max (states_of t) sample) where
  -- the sample was taken, and then these are the tree and the lent tables
  abbrev Made : Tree → List Float → List ℕ → Verdict → Type 0
  Made t' costs' found' v = Grows p (tree_of t costs) sample (record { verdict = v; at = e.at }) t' costs' found'

  whole : after_step p (tree_of t costs) e ≡ grow_of p (tree_of t costs) sample
  unfolding grow_of
  whole = ap (after_step p (tree_of t costs)) (is ∙ rw (states_are t))

  made :
      (t' : Tree) (costs' : List Float) (found' : List ℕ) (v : Verdict) → 0 < t'.count → t'.count ≤ 512 → (length costs' ≡ 512) × (length found' ≡ 512) →
      grown_with t' costs' (record { verdict = v; at = e.at }) ≡ after_step p (tree_of t costs) e → Made t' costs' found' v
  made t' costs' found' v h l sized g = record { is = g ∙ whole; some = h; room = l; sized = sized }

  pub refused : not e.accepted ≡ true → Made t costs found Refused
  refused h = made t costs found Refused asked.0 asked.1 (asked.2, asked.3) (unfold after_step in rw no)
    where
      no : e.accepted ≡ false
      no = grind arith

  -- whether there is room is told by how many nodes it has
  module _ (size : ℕ) (many : size ≡ length (nodes_of t).states) (h : not e.accepted ≡ false) where
    yes : e.accepted ≡ true
    yes = grind arith

    pub full : 512 ≤ size → Made t costs found Full
    full l = made t costs found Full asked.0 asked.1 (asked.2, asked.3) (unfold after_step in rw (yes, ← many, le-ltb size 512 l))

    module _ (sized : length t.nodes ≡ 512) (l : size < 512) where
      -- the count is below the table's places
      pub low : t.count < 512
      low = omega (arith, many, nodes_length t (omega (arith, sized)))

      abbrev with : Costed → Step
      with x = record { tree = x; verdict = Added; at = e.at }

      as_added : with (added_of p.limits p.segment p.keep_outs p.radius (tree_of t costs) e) ≡ after_step p (tree_of t costs) e
      unfolding after_step
      as_added = rw (yes, ← many, lt-ltb size 512 l)

      pub added : (t' : Tree) (costs' : List Float) (found' : List ℕ) → Adds p.limits p.segment p.keep_outs p.radius t costs e t' costs' found' → Made t' costs' found' Added
      added t' costs' found' w = let few = low in made t' costs' found' Added (omega (arith, w.count)) (omega (arith, w.count)) w.sized (ap with w.is ∙ as_added)
