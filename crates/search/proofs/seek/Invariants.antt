use Rattle.std.proofs.Common.{◌-◌, length}
use Rattle.roadmap.specs.View.{milestones_of}
use Rattle.search.specs.Search.{neighbours_of}
use Rattle.search.specs.Query.{goal_of}
use Rattle.search.proofs.Breadth.{Seeking}
use Rattle.search.proofs.seek.Given as goal

-- what the search finds is what it finds from this place on
abbrev pub invariant-places : goal.invariant-places
invariant-places l =
    let ms = milestones_of l.map in
    Seeking (goal_of l.goal ms) (neighbours_of ms) (length ms) l.initial.queue l.queue l.place

abbrev pub decreases-places : goal.decreases-places
decreases-places l = 256 - l.place
