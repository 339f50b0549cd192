-- Document 01, "Adding a keep-out" and "Sizes and answers": 1, 2, 4, and a refusal keeps all. An accepted one leaves of the roadmap what it does
-- not cover.
use Rattle.std.specs.Prelude.{cond, List, [], ◌∷◌, ◌≡◌, eqb}
use Rattle.answer.specs.Number.{number_of}
use Rattle.answer.specs.declared.Answer.TheVariants.{Done, Uninitialised}
use Rattle.keep_out.specs.declared.KeepOut.{KeepOut}
use Rattle.plan.specs.Plan.{unset, set}
use Rattle.plan.specs.Setup.{Told}
use Rattle.plan.specs.KeepOut.{longer_of}
use Rattle.roadmap.specs.Map.{Milestone}
use Rattle.prune.specs.Prune.{pruned_of}
use Rattle.prm.specs.Planner.{Given, View}

-- the same under another list of keep-outs
abbrev pub given_under : Given → List KeepOut → Given
given_under g ks = record { limits = g.limits; segment = g.segment; keep_outs = ks; radius = g.radius; start = g.start; goal = g.goal }

unfoldable pub add_of : View → KeepOut → Told Given (List Milestone)
add_of unset k = record { planner = unset; answer = Uninitialised }
add_of (set g ms) k =
    let longer = longer_of g.keep_outs k in
    let added : Told Given (List Milestone) = record { planner = set (given_under g longer.keep_outs) (pruned_of g.segment k ms); answer = longer.answer } in
    cond (eqb (number_of longer.answer) 0) added (record { planner = set g ms; answer = longer.answer })

-- keep-outs added one by one, with nothing between
unfoldable pub added_all : View → List KeepOut → View
added_all planner [] = planner
added_all planner (k ∷ ks) = added_all (add_of planner k).planner ks

-- each of them accepted
unfoldable pub AllAccepted : View → List KeepOut → Type 0
AllAccepted planner [] = Unit {0}
AllAccepted planner (k ∷ ks) = ((add_of planner k).answer ≡ Done) × AllAccepted (add_of planner k).planner ks
