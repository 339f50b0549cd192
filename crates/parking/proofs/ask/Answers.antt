use mathlib.Core.Path.{◌≡◌, refl}
use native.Mathlib.Omega.{arith}
use Rattle.prm.specs.Query.{queried_of}
use Rattle.parking.specs.Chart.{queries_of}
use Rattle.parking.proofs.Charting.{query_more}
use Rattle.parking.proofs.ask.Goals as goal

pub loop-init : goal.loop-init
unfolding queries_of
loop-init c = refl

pub loop-preserved : goal.loop-preserved
loop-preserved c = query_more _ _ _ (queried_of c.loop.last c.loop.route) _ c.loop.invariant c.query-last.ensures

pub returns : goal.returns
returns c =
    let all : c.loop.counter ≡ c.args.queries = omega arith in
    rw all at c.loop.invariant
