-- What of a list stays, in order.
use Rattle.std.specs.Prelude.{Bool, cond, List, [], ◌∷◌}

module _ {A : Type 0} where
  -- those of which the test is true
  unfoldable pub keep_of : (A → Bool) → List A → List A
  keep_of f [] = []
  keep_of f (x ∷ xs) = let later = keep_of f xs in cond (f x) (x ∷ later) later
