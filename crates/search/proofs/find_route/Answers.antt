use mathlib.Core.List.{[], map}
use mathlib.Core.Path.{◌≡◌, sym, ◌∙◌, ap}
use native.Mathlib.Omega.{arith}
use lib.ListN.{length}
use Rattle.keep_out_table.specs.Table.{keep_outs_of}
use Rattle.route.specs.Written.{written_of}
use Rattle.route.proofs.Stores.{nothing_written}
use Rattle.roadmap.specs.View.{milestones_of}
use Rattle.construct.specs.Construct.{joined_of}
use Rattle.queue.specs.Places.{numbers_of, push_of}
use Rattle.search.specs.Query.{states_of}
use Rattle.search.proofs.Milestones.{states_long, states_few}
use Rattle.search.proofs.Queries.{first_low, query_nothing, query_here}
use Rattle.search.proofs.find_route.Goals as goal
use Rattle.search.proofs.find_route.Goals.{After-connect}

-- the start connections are queued, and nothing else
first :
    (c : After-connect) →
    let a = c.args in
    let joins = joined_of a.mount.now.limits a.mount.now.segment.value (keep_outs_of a.mount.now.table) a.radius a.start in
    c.connect.new.self ≡ push_of 0 [] (numbers_of 0 (map joins (states_of (milestones_of a.map.now))))
first c = rw (← c.states-milestones.ensures, ← c.new-queue.ensures) c.connect.ensures

pub connect-requires : goal.connect-requires
connect-requires c = omega (arith, ap length c.states-milestones.ensures, states_long c.args.map.now, states_few c.args.map.now)

pub seek-requires : goal.seek-requires
seek-requires c = first_low _ _ _ _ _ c.args.goal _ _ (first (goal.at.seek-requires c).After-connect)

pub returns-in-Some : goal.returns-in-Some
returns-in-Some c =
    let met = c.in-Some.ensures in
    let path = query_here _ _ _ _ _ _ _ _ (first (goal.at.returns-in-Some c).After-connect) _ _ met.2 met.0 in
    record { count = rw (path, ← c.states-milestones.ensures) c.write.ensures.count; memory = rw (path, ← c.states-milestones.ensures) c.write.ensures.memory }

pub returns-in-None : goal.returns-in-None
returns-in-None c =
    let none = query_nothing _ _ _ _ _ _ _ _ (first (goal.at.returns-in-None c).After-connect) c.in-None.ensures in
    record { count = sym (ap length none); memory = sym (ap (λ path. written_of path c.args.route.now) none ∙ nothing_written _) }
