-- A call of the host. A kind that is none of the three is bad input. Else it is document 01's setup on the numbers in its order, and if that is
-- done a solve.
use Rattle.std.specs.Prelude.{ℕ, ◌+◌, Bool, cond, List, ◌≡◌, eqb, Float}
use Rattle.answer.specs.Number.{number_of}
use Rattle.answer.specs.declared.Answer.TheVariants.{BadInput}
use Rattle.keep_out_table.specs.declared.KeepOuts.{KeepOuts}
use Rattle.tree.specs.Table.{Nodes}
use Rattle.given.specs.Given.{fields_in_of}
use Rattle.listing.specs.Table.{Listed, known_of}
use Rattle.plan.specs.Plan.{Plan, Planner, unset}
use Rattle.plan.specs.Setup.{Told}
use Rattle.plan.specs.Solve.{Outcome, refused_of}
use Rattle.rrt.specs.Planner as rrt
use Rattle.rrt.specs.Solve as rrt-solve
use Rattle.rrt_connect.specs.Planner as connect
use Rattle.turn.specs.Trees.{Trees}
use Rattle.rrt_connect.specs.Solve as connect-solve
use Rattle.star.specs.Grow.{Costed}
use Rattle.star_run.specs.Run.{StarPlan}
use Rattle.rrt_star.specs.Planner as star
use Rattle.rrt_star.specs.Solve as star-solve
use Rattle.roadmap.specs.Map.{Milestone}
use Rattle.prm.specs.Planner as prm
use Rattle.prm.specs.Planner.{Given}
use Rattle.parking.specs.Park.{build_of}
use Rattle.parking.specs.Chart.{chart_of}
use Rattle.host.specs.declared.Report.{Report}

-- a planner that is set up and solves, where the kinds are known; a refusal keeps the route
unfoldable pub call_with : {P A : Type 0} → (Planner P A → List Float → List Float → Outcome P A) → Bool → Told P A → List Float → List Float → Outcome P A
call_with solve known told samples route =
    let solved = solve told.planner samples route in
    let called = cond (eqb (number_of told.answer) 0) solved (refused_of told.planner told.answer route) in
    cond known called (refused_of unset BadInput route)

-- RRT's setup, and the call
abbrev pub rrt_told : List Float → rrt.View → KeepOuts → Told Plan Nodes
rrt_told l planner table = let f = fields_in_of l in rrt.setup_of planner f.limits f.segment f.reach f.start f.goal table

unfoldable pub rrt_call : List Float → List ℕ → ℕ → List Float → List Float → KeepOuts → Outcome Plan Nodes
rrt_call l kinds count samples route table = call_with rrt-solve.solve_of (known_of kinds count) (rrt_told l rrt.new_of table) samples route

-- RRT-Connect's
abbrev pub connect_told : List Float → connect.View → KeepOuts → Told Plan Trees
connect_told l planner table = let f = fields_in_of l in connect.setup_of planner f.limits f.segment f.reach f.start f.goal table

unfoldable pub connect_call : List Float → List ℕ → ℕ → List Float → List Float → KeepOuts → Outcome Plan Trees
connect_call l kinds count samples route table = call_with connect-solve.solve_of (known_of kinds count) (connect_told l connect.new_of table) samples route

-- RRT*'s, with the search radius
abbrev pub star_told : List Float → Float → star.View → KeepOuts → Told StarPlan Costed
star_told l radius planner table =
    let f = fields_in_of l in
    star.setup_of planner f.limits f.segment f.reach (record { value = radius }) f.start f.goal table

unfoldable pub star_call : List Float → Float → List ℕ → ℕ → List Float → List Float → KeepOuts → Outcome StarPlan Costed
star_call l radius kinds count samples route table =
    call_with star-solve.solve_of (known_of kinds count) (star_told l radius star.new_of table) samples route

-- PRM's, which is a construction and its queries
abbrev pub prm_told : List Float → prm.View → KeepOuts → Told Given (List Milestone)
prm_told l planner table = let f = fields_in_of l in prm.setup_of planner f.limits f.segment f.reach f.start f.goal table

-- the kinds of all rows that are named are looked at first
unfoldable pub prm_call : List Float → List ℕ → List Float → ℕ → ℕ → List Float → ℕ → List Float → KeepOuts → Outcome Given (List Milestone)
prm_call l kinds numbers count added samples queries route table =
    call_with (chart_of (build_of kinds numbers count added) queries) (known_of kinds (count + added)) (prm_told l prm.new_of table) samples route

-- what is reported of an outcome, and the route at exit
pub record Reports {P A : Type 0} (o : Outcome P A) (r : Report) (new : List Float) : Type 0 where
  pub answer : r.answer ≡ number_of o.answer
  pub count : r.count ≡ o.count
  pub taken : r.taken ≡ o.taken
  pub memory : new ≡ o.route

-- what the call gives. Setup reads nothing of a table but its count and its list, so the table leaves no second answer.
pub record Called {P A : Type 0} (call : KeepOuts → Outcome P A) (kinds : List ℕ) (numbers : List Float) (count : ℕ) (r : Report) (new : List Float) : Type 0 where
  pub table : KeepOuts
  pub listed : Listed kinds numbers count table
  pub gives : Reports (call table) r new
