-- A keep-out that empties the roadmap: the next query is answered 5, and a later construction starts a new list.
use Prim.Native.Nat.{◌≤◌}
use mathlib.Core.List.{List, [], ◌∷◌, ◌++◌}
use mathlib.Core.Path.{◌≡◌, ◌∙◌, ap}
use borrow.Author.Tests.{le-ltb}
use lib.ListN.{length}
use lib.Ieee.{Float}
use Rattle.answer.specs.declared.Answer.TheVariants.{Done, Unsampled}
use Rattle.keep_out.specs.declared.KeepOut.{KeepOut}
use Rattle.plan.specs.Plan.{set}
use Rattle.roadmap.specs.Map.{Milestone}
use Rattle.prune.specs.Prune.{pruned_of}
use Rattle.prm.specs.Planner.{Given, View}
use Rattle.prm.specs.Construct.{construct_of}
use Rattle.prm.specs.Query.{needed, refused_of, query_of}
use Rattle.prm.specs.Adding.{given_under, add_of}
use Rattle.prm.proofs.Demand.{accepted}

module _ (g : Given) (ms : List Milestone) (k : KeepOut) (done : (add_of (set g ms) k).answer ≡ Done) (none : pruned_of g.segment k ms ≡ []) where
  abbrev longer : Given
  longer = given_under g (g.keep_outs ++ (k ∷ []))

  -- what is left: the same plan under the longer list, and no milestone
  pub emptied : (add_of (set g ms) k).planner ≡ set longer []
  emptied = accepted g ms k done ∙ ap (set longer) none

  -- 5 at the next query that has room for a route; the route buffer is kept
  pub emptied_is_unsampled : (route : List Float) → needed ≤ length route → query_of (add_of (set g ms) k).planner route ≡ refused_of Unsampled route
  unfolding query_of
  emptied_is_unsampled route room = rw (emptied, le-ltb (length route) needed room)

  -- a later construction is that of an empty roadmap under the longer list
  pub emptied_begins_anew : (samples : List Float) → construct_of (add_of (set g ms) k).planner samples ≡ construct_of (set longer []) samples
  emptied_begins_anew samples = ap (λ (v : View). construct_of v samples) emptied
