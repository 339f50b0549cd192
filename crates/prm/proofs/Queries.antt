-- A query that finds no route leaves the route buffer as it was.
use Prim.Native.Nat.{ℕ}
use mathlib.Core.List.{List, [], ◌∷◌}
use mathlib.Core.Path.{◌≡◌, sym, ◌∙◌}
use native.Mathlib.Omega.{arith}
use lib.ListN.{length}
use lib.Ieee.{Float}
use Rattle.route.specs.Written.{written_of}
use Rattle.route.proofs.Stores.{nothing_written}
use Rattle.state.specs.declared.State.{State}
use Rattle.search.specs.Query.{Routed}

no_state : (path : List State) (old new : List Float) → length path ≡ 0 → new ≡ written_of path old → new ≡ old
no_state [] old new e is = is ∙ nothing_written old
no_state (s ∷ ss) old new e is = absurd (omega arith)

pub no_route : (path : List State) (old new : List Float) (n : ℕ) → Routed path old n new → n ≡ 0 → new ≡ old
no_route path old new n w e = no_state path old new (sym w.count ∙ e) w.memory
