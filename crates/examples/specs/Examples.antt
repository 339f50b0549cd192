-- Document 01, "Examples on both sides": one table. The one statement on it, that every row holds, is in proofs/Examples.antt.
-- A new kind of example is a constructor of `Case` and a line of `holds`; a new example is a row.
use Rattle.std.specs.Prelude.{ℕ, ◌^◌, ◌*◌, ◌-◌, Bool, true, false, ◌&&◌, List, [], ◌∷◌, ◌++◌, map, eqb, length, replicate, Float, Option, Some, None}
use Rattle.std.specs.Bool.{beq}
use Rattle.answer.specs.Number.{number_of}
use Rattle.answer.specs.declared.Answer.{Answer}
use Rattle.state.specs.Distance.{distance_of}
use Rattle.state.specs.Steering.{steer_of}
use Rattle.state.specs.declared.State.{State}
use Rattle.fields.specs.declared.Goal.{Goal}
use Rattle.keep_out.specs.Covers.{covers_of}
use Rattle.keep_out_table.specs.Table.{empty_table}
use Rattle.keep_out.specs.declared.KeepOut.{KeepOut}
use Rattle.keep_out.specs.declared.KeepOut.TheVariants.{Disc}
use Rattle.motion.specs.Points.{steps_of, Checked, too_many, points, checked_of}
use Rattle.motion.specs.Accepts.{accepts_of}
use Rattle.tree.specs.Table.{Nodes}
use Rattle.plan.specs.Plan.{Plan, unset, set}
use Rattle.plan.specs.Solve.{Outcome}
use Rattle.rrt.specs.Planner.{new_of, setup_of}
use Rattle.rrt.specs.Solve.{solve_of}
use Rattle.turn.specs.Trees.{Trees}
use Rattle.rrt_connect.specs.Planner as planner
use Rattle.rrt_connect.specs.Solve as connect
use Rattle.star.specs.Grow.{Costed}
use Rattle.star_run.specs.Run.{StarPlan}
use Rattle.rrt_star.specs.Planner as star
use Rattle.rrt_star.specs.Solve as star-solve
use Rattle.roadmap.specs.Map.{Milestone}
use Rattle.roadmap.specs.View.{span_of}
use Rattle.search.specs.Search as search
use Rattle.prm.specs.Planner as prm
use Rattle.prm.specs.Construct as prm-construct
use Rattle.prm.specs.Query as prm-query
use Rattle.prm.specs.Query.{Reply}
use Rattle.prm.specs.Adding as prm-adding
use Rattle.examples.specs.Words.{ratio, whole, at, on, origin, limits, segment, box, unused, none, same, same_state, same_lists, same_states, same_numbers, same_indices}

-- what an example says
pub data Case : Type 0 where
  -- the distance of two states
  distance : State → State → Float → Case
  -- with this segment length, the n of a motion and the states that are tested, in order
  tested : Float → State → State → ℕ → List State → Case
  -- whether a motion is accepted among these keep-outs
  accepted : List KeepOut → State → State → Bool → Case
  -- whether a keep-out covers a state
  covered : KeepOut → State → Bool → Case
  -- with this max_distance, the new state from a node toward a sample
  steered : Float → State → State → State → Case
  -- RRT with this max_distance from a start to a goal over a list of samples: the route's numbers, and the samples taken
  planned : Float → State → Goal → List Float → List Float → ℕ → Case
  -- RRT-Connect, the same
  connected : Float → State → Goal → List Float → List Float → ℕ → Case
  -- RRT* with this max_distance and search_radius, over a list of samples: the answer, and each node's parent and cost
  rewired : Float → Float → State → Goal → List Float → ℕ → List ℕ → List Float → Case
  -- PRM with this connection_radius: a roadmap of a list of samples, and then a query from a start to a goal. The samples taken, each milestone's
  -- neighbours, and the route's numbers
  charted : Float → List Float → State → Goal → ℕ → List (List ℕ) → List Float → Case
  -- the same, with keep-outs added one by one before the query: the milestones and each one's neighbours, and the query's answer and route
  pruned : Float → List Float → List KeepOut → State → Goal → List State → List (List ℕ) → ℕ → List Float → Case

unfoldable pub counts : Option ℕ → ℕ → Bool
counts (Some n) m = eqb n m
counts None m = false

unfoldable pub points_are : Checked → List State → Bool
points_are too_many ss = false
points_are (points ts) ss = same_states ts ss

-- the route's numbers stand at the front of a buffer of that length, and every number behind them is kept
unfoldable pub writes : ℕ → ℕ → List Float → List Float → Bool
writes size count route numbers =
    eqb (3 * count) (length numbers) && same_numbers route (numbers ++ replicate (size - length numbers) unused)

-- done, with that route
unfoldable pub gives : ℕ → Answer → ℕ → ℕ → List Float → List Float → ℕ → Bool
gives size answer count taken route numbers samples = eqb (number_of answer) 0 && eqb taken samples && writes size count route numbers

unfoldable pub planned_by : Float → State → Goal → List Float → Outcome Plan Nodes
planned_by max start goal samples =
    let told = setup_of new_of limits (record { value = segment }) (record { value = max }) start goal empty_table in
    solve_of told.planner samples (replicate 1536 unused)

unfoldable pub connected_by : Float → State → Goal → List Float → Outcome Plan Trees
connected_by max start goal samples =
    let told = planner.setup_of planner.new_of limits (record { value = segment }) (record { value = max }) start goal empty_table in
    connect.solve_of told.planner samples (replicate 3069 unused)

unfoldable pub rewired_by : Float → Float → State → Goal → List Float → Outcome StarPlan Costed
rewired_by max search start goal samples =
    let told = star.setup_of star.new_of limits (record { value = segment }) (record { value = max }) (record { value = search }) start goal empty_table in
    star-solve.solve_of told.planner samples (replicate 1536 unused)

-- how the nodes of a planner that is set up hang together
unfoldable pub hangs : star.View → List ℕ → List Float → Bool
hangs unset parents costs = false
hangs (set plan tree) parents costs = same_indices tree.nodes.parents parents && same_numbers tree.costs costs

-- the roadmap of a planner that is set up from the origin to the origin
unfoldable pub charted_by : Float → List Float → prm-construct.Construction
charted_by radius samples =
    let goal : Goal = record { centre = origin; radius = whole 0 } in
    let told = prm.setup_of prm.new_of limits (record { value = segment }) (record { value = radius }) origin goal empty_table in
    prm-construct.construct_of told.planner samples

-- a query over it, of another start and goal
unfoldable pub asked_of : prm.View → State → Goal → Reply
asked_of planner start goal = prm-query.query_of (prm.goals_of planner start goal).planner (replicate 771 unused)

-- the neighbours of each milestone, in order
unfoldable pub joins : prm.View → List (List ℕ) → Bool
joins unset neighbours = false
joins (set given ms) neighbours = same_lists same_indices (span_of 0 (length ms) (search.neighbours_of ms)) neighbours

-- the milestones, in order
unfoldable pub stands : prm.View → List State → Bool
stands unset states = false
stands (set given ms) states = same_states (map (λ (m : Milestone). m.at) ms) states

-- keep-outs added one by one, each of them accepted
unfoldable pub takes_all : prm.View → List KeepOut → Bool
takes_all planner [] = true
takes_all planner (k ∷ ks) =
    let told = prm-adding.add_of planner k in
    eqb (number_of told.answer) 0 && takes_all told.planner ks

unfoldable pub holds : Case → Bool
holds (distance a b d) = same (distance_of a b) d
holds (tested length from to n ss) = counts (steps_of length from to) n && points_are (checked_of length from to) ss
holds (accepted ks from to r) = beq (accepts_of limits segment ks from to) r
holds (covered k s r) = beq (covers_of k s) r
holds (steered max near sample new) = same_state (steer_of max near sample) new
holds (planned max start goal samples numbers taken) =
    let o = planned_by max start goal samples in
    gives 1536 o.answer o.count o.taken o.route numbers taken
holds (connected max start goal samples numbers taken) =
    let o = connected_by max start goal samples in
    gives 3069 o.answer o.count o.taken o.route numbers taken
holds (rewired max search start goal samples answer parents costs) =
    let o = rewired_by max search start goal samples in
    eqb (number_of o.answer) answer && hangs o.planner parents costs
holds (charted radius samples start goal taken neighbours numbers) =
    let built = charted_by radius samples in
    let reply = asked_of built.planner start goal in
    eqb (number_of built.answer) 0 && joins built.planner neighbours
    && gives 771 reply.answer reply.count built.taken reply.route numbers taken
holds (pruned radius samples ks start goal states neighbours answer numbers) =
    let built = (charted_by radius samples).planner in
    let left = prm-adding.added_all built ks in
    let reply = asked_of left start goal in
    takes_all built ks && stands left states && joins left neighbours
    && eqb (number_of reply.answer) answer && writes 771 reply.count reply.route numbers

unfoldable pub all_hold : List Case → Bool
all_hold [] = true
all_hold (c ∷ cs) = holds c && all_hold cs

unfoldable pub examples : List Case
examples =
    -- E1 distance (0,0,0),(3,4,0) is 4
    distance origin (at (whole 3) (whole 4) (whole 0)) (whole 4)
    -- E2 (0,0,0) to (1,0,0): n = 1, only the end tested
    ∷ tested segment origin (on (whole 1)) 1 (on (whole 1) ∷ [])
    -- E2 to (1.5,0,0): n = 2, points 0.75 and 1.5
    ∷ tested segment origin (on (ratio 15 10)) 2 (on (ratio 75 100) ∷ on (ratio 15 10) ∷ [])
    -- E3 box (0,0,0)-(0.5,1,1): the motion to (1.5,0,0) is accepted
    ∷ accepted (box (whole 0) (ratio 5 10) ∷ []) origin (on (ratio 15 10)) true
    -- E4 box (1.5,0,0)-(2,1,1): it is not
    ∷ accepted (box (ratio 15 10) (whole 2) ∷ []) origin (on (ratio 15 10)) false
    -- E4 box (0.76,0,0)-(1.4,1,1): accepted
    ∷ accepted (box (ratio 76 100) (ratio 14 10) ∷ []) origin (on (ratio 15 10)) true
    -- E5 disc (10,10) radius 5 covers (13,14,0)
    ∷ covered (Disc (whole 10) (whole 10) (whole 5)) (at (whole 13) (whole 14) (whole 0)) true
    -- E6 segment 5, from (1,0,0) to (2^-60,0,0): n = 2, the last tested azimuth is 0
    ∷ tested (whole 5) (on (whole 1)) (on (ratio 1 (2 ^ 60))) 2 (on (ratio 5 10) ∷ on (whole 0) ∷ [])
    -- E7 max_distance 4, from (0,0,0): sample (8,4,0) gives (4,2,0)
    ∷ steered (whole 4) origin (at (whole 8) (whole 4) (whole 0)) (at (whole 4) (whole 2) (whole 0))
    -- E7 sample (4,2,0) gives itself
    ∷ steered (whole 4) origin (at (whole 4) (whole 2) (whole 0)) (at (whole 4) (whole 2) (whole 0))
    -- E8 RRT, start (0,0,0), max 4, goal (6,0,0) radius 0.5, samples (8,0,0),(6,0,0): route numbers 0,0,0,4,0,0,6,0,0; 2 taken
    ∷ planned (whole 4) origin (record { centre = on (whole 6); radius = ratio 5 10 })
    (whole 8 ∷ whole 0 ∷ whole 0 ∷ whole 6 ∷ whole 0 ∷ whole 0 ∷ [])
    (whole 0 ∷ whole 0 ∷ whole 0 ∷ whole 4 ∷ whole 0 ∷ whole 0 ∷ whole 6 ∷ whole 0 ∷ whole 0 ∷ []) 2
    -- E9 RRT-Connect, start (0,0,0), max 4, goal (8,0,0) radius 0.5, samples (8,0,0),(4,0,0): 0,0,0,4,0,0,8,0,0; 2 taken
    ∷ connected (whole 4) origin (record { centre = on (whole 8); radius = ratio 5 10 })
    (whole 8 ∷ whole 0 ∷ whole 0 ∷ whole 4 ∷ whole 0 ∷ whole 0 ∷ [])
    (whole 0 ∷ whole 0 ∷ whole 0 ∷ whole 4 ∷ whole 0 ∷ whole 0 ∷ whole 8 ∷ whole 0 ∷ whole 0 ∷ []) 2
    -- E10 RRT*, max 4, search 1.5, start (0,0,0), goal (50,0,0) radius 0, samples (3,0,0),(2,0,0),(1,0,0): answer 3; parents none,0,3,0; costs 0,3,2,1
    ∷ rewired (whole 4) (ratio 15 10) origin (record { centre = on (whole 50); radius = whole 0 })
    (whole 3 ∷ whole 0 ∷ whole 0 ∷ whole 2 ∷ whole 0 ∷ whole 0 ∷ whole 1 ∷ whole 0 ∷ whole 0 ∷ []) 3
    (none ∷ 0 ∷ 3 ∷ 0 ∷ []) (whole 0 ∷ whole 3 ∷ whole 2 ∷ whole 1 ∷ [])
    -- E11 PRM radius 2, samples (0,0,0),(2,0,0),(1,0,0): neighbours [2],[2],[0,1]. Query start (0,1,0), goal (2,0,0) radius 0: 0,1,0,1,0,0,2,0,0
    ∷ charted (whole 2)
    (whole 0 ∷ whole 0 ∷ whole 0 ∷ whole 2 ∷ whole 0 ∷ whole 0 ∷ whole 1 ∷ whole 0 ∷ whole 0 ∷ [])
    (at (whole 0) (whole 1) (whole 0)) (record { centre = on (whole 2); radius = whole 0 }) 3
    ((2 ∷ []) ∷ (2 ∷ []) ∷ (0 ∷ 1 ∷ []) ∷ [])
    (whole 0 ∷ whole 1 ∷ whole 0 ∷ whole 1 ∷ whole 0 ∷ whole 0 ∷ whole 2 ∷ whole 0 ∷ whole 0 ∷ [])
    -- E12 to E11 add box (1.4,0,0)-(1.6,1,1): nothing changes
    ∷ pruned (whole 2)
    (whole 0 ∷ whole 0 ∷ whole 0 ∷ whole 2 ∷ whole 0 ∷ whole 0 ∷ whole 1 ∷ whole 0 ∷ whole 0 ∷ [])
    (box (ratio 14 10) (ratio 16 10) ∷ [])
    (at (whole 0) (whole 1) (whole 0)) (record { centre = on (whole 2); radius = whole 0 })
    (origin ∷ on (whole 2) ∷ on (whole 1) ∷ []) ((2 ∷ []) ∷ (2 ∷ []) ∷ (0 ∷ 1 ∷ []) ∷ []) 0
    (whole 0 ∷ whole 1 ∷ whole 0 ∷ whole 1 ∷ whole 0 ∷ whole 0 ∷ whole 2 ∷ whole 0 ∷ whole 0 ∷ [])
    -- E12 then box (0.9,0,0)-(1.1,1,1): milestones (0,0,0),(2,0,0), no legs; the query gives 7
    ∷ pruned (whole 2)
    (whole 0 ∷ whole 0 ∷ whole 0 ∷ whole 2 ∷ whole 0 ∷ whole 0 ∷ whole 1 ∷ whole 0 ∷ whole 0 ∷ [])
    (box (ratio 14 10) (ratio 16 10) ∷ box (ratio 9 10) (ratio 11 10) ∷ [])
    (at (whole 0) (whole 1) (whole 0)) (record { centre = on (whole 2); radius = whole 0 })
    (origin ∷ on (whole 2) ∷ []) ([] ∷ [] ∷ []) 7 []
    ∷ []
