-- Document 01, "RRT*", the parent: start with nearest, cost = its cost + distance(new, nearest). A neighbour replaces it when its cost sum is
-- strictly lower and the motion neighbour to new is accepted.
use Rattle.std.specs.Prelude.{ℕ, Bool, ◌&&◌, cond, List, [], ◌∷◌, get_or, Float}
use Rattle.std.specs.Float.{nan, binary64}
use Rattle.std.specs.Float.Ieee.{add, lt}
use Rattle.state.specs.Distance.{distance_of}
use Rattle.state.specs.Rows.{state_at}
use Rattle.state.specs.declared.State.{State}
use Rattle.fields.specs.declared.Limits.{Limits}
use Rattle.keep_out.specs.declared.KeepOut.{KeepOut}
use Rattle.motion.specs.Accepts.{accepts_of}
use Rattle.choice.specs.declared.Choice.{Choice}

-- the cost of a node, read from the list of costs
abbrev pub cost_at : List Float → ℕ → Float
cost_at costs i = get_or costs i nan

-- the cost of the new state under the node i
unfoldable pub cost_via : List State → List Float → State → ℕ → Float
cost_via states costs new i = add binary64 (cost_at costs i) (distance_of new (state_at states i))

-- the neighbour i replaces the best so far
unfoldable pub is_better : Limits → Float → List KeepOut → List State → List Float → State → Choice → ℕ → Bool
is_better limits segment ks states costs new best i =
    lt (cost_via states costs new i) best.cost && accepts_of limits segment ks (state_at states i) new

unfoldable pub choose_from : Limits → Float → List KeepOut → List State → List Float → State → Choice → List ℕ → Choice
choose_from limits segment ks states costs new best [] = best
choose_from limits segment ks states costs new best (i ∷ is) =
    let via : Choice = record { parent = i; cost = cost_via states costs new i } in
    choose_from limits segment ks states costs new (cond (is_better limits segment ks states costs new best i) via best) is

unfoldable pub choose_of : Limits → Float → List KeepOut → List State → List Float → State → ℕ → List ℕ → Choice
choose_of limits segment ks states costs new nearest neighbours =
    choose_from limits segment ks states costs new (record { parent = nearest; cost = cost_via states costs new nearest }) neighbours
