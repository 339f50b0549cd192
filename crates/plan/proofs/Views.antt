-- A planner's view from the test of whether it can be used, for any plan and any tables.
use mathlib.Core.Bool.{Bool, true, false}
use mathlib.Core.Path.{◌≡◌}
use Rattle.plan.specs.Plan.{unset, set, view_of}

module _ {P A : Type 0} (usable : Bool) (plan : P) (tables : A) where
  pub view_set : usable ≡ true → view_of usable plan tables ≡ set plan tables
  unfolding view_of
  view_set u = rw u

  pub view_unset : usable ≡ false → view_of usable plan tables ≡ unset
  unfolding view_of
  view_unset u = rw u
