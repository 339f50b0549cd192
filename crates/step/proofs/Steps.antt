-- A tree step from what its calls gave.
use Prim.Native.Nat.{ℕ, ◌≤◌, ◌<◌}
use mathlib.Core.Bool.{Bool, not}
use mathlib.Core.List.{List}
use mathlib.Core.Path.{◌≡◌}
use lib.ListN.{length, get_or}
use lib.Ieee.{Float, lt}
use Rattle.state.specs.Steering.{steer_by_of}
use Rattle.state.specs.declared.State.{State}
use Rattle.fields.specs.declared.Limits.{Limits}
use Rattle.keep_out.specs.declared.KeepOut.{KeepOut}
use Rattle.motion.specs.Accepts.{accepts_of}
use Rattle.tree.specs.declared.Node.{Node}
use Rattle.tree.specs.declared.Tree.{Tree}
use Rattle.tree.specs.Table.{states_of}
use Rattle.tree.proofs.Nodes.{states_few, state_is}
use Rattle.nearest.specs.declared.Near.{Near}
use Rattle.nearest.specs.Nearest.{nearest_of}
use Rattle.nearest.proofs.Below.{nearest_below}
use Rattle.step.specs.Step.{step_from, step_of}

module _ (t : Tree) (some : 0 < t.count) (sample : State) (near : Near) (is : near ≡ nearest_of (states_of t) sample) where
  -- the nearest node is one of the nodes
  pub below : near.index < t.count
  below = rw is (nearest_below (states_of t) sample t.count some (states_few t))

  pub step_is :
      t.count ≤ length t.nodes → (limits : Limits) (segment : Float) (ks : List KeepOut) (max : Float) (d : Node) (at : State) (accepted : Bool) →
      at ≡ steer_by_of max near.far (get_or t.nodes near.index d).state sample →
      accepted ≡ accepts_of limits segment ks (get_or t.nodes near.index d).state at →
      record { at = at; parent = near.index; reached = not (lt max near.far); accepted = accepted }
      ≡ step_of limits segment ks max (states_of t) sample
  unfolding step_of step_from
  step_is room limits segment ks max d at accepted p q = rw (← is, state_is t room near.index d below, ← p, ← q)
