-- A distance is never NaN, negative or -0.0, for any two states: it starts at +0.0 and is replaced only by what is strictly larger.
use mathlib.Core.Bool.{true}
use mathlib.Core.Path.{◌≡◌, refl}
use lib.Ieee.{Float, binary64, lt, of_bits}
use Rattle.laws.specs.Order.{whether, good, beyond}
use Rattle.state.specs.Distance.{wider_of, distance_of}
use Rattle.state.specs.declared.State.{State}

wider_good : (m x : Float) → good m ≡ true → good (wider_of m x) ≡ true
unfolding wider_of
wider_good m x p = whether (lt m x) (λ e. rw e (beyond m x p e)) (λ e. rw e p)

pub distance_good : (a b : State) → good (distance_of a b) ≡ true
unfolding distance_of
distance_good a b = wider_good _ _ (wider_good _ _ (wider_good (of_bits binary64 0) _ zero_good))
  where
    zero_good : good (of_bits binary64 0) ≡ true
    zero_good = unfold good of_bits in refl
