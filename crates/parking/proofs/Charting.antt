-- What was built and its queries, from what each of them gave.
use Prim.Native.Nat.{ℕ, suc, ◌+◌}
use mathlib.Core.Bool.{true, false}
use mathlib.Core.List.{List}
use mathlib.Core.Path.{◌≡◌, ◌∙◌, ap}
use native.Mathlib.Omega.{arith}
use lib.Ieee.{Float}
use Rattle.prm.specs.Planner as prm
use Rattle.prm.specs.Construct.{Construction}
use Rattle.prm.specs.Query.{Reply, query_of}
use Rattle.parking.specs.Chart.{queries_of, built_reply, charted_of, chart_of}
use Rattle.parking.proofs.Parks.{is_done}

-- one query more
pub query_more :
    (p : prm.View) (i : ℕ) (first before after : Reply) → before ≡ queries_of p i first → after ≡ query_of p before.route →
    after ≡ queries_of p (i + 1) first
unfolding queries_of
query_more p i first before after h is =
    let e : suc i ≡ i + 1 = omega arith in
    is ∙ ap (λ (r : Reply). query_of p r.route) h ∙ ap (λ (n : ℕ). queries_of p n first) e

module _ (build : prm.View → List Float → Construction) (planner : prm.View) (samples old : List Float) (queries : ℕ) (built : Construction)
    (is : built ≡ build planner samples) where
  pub chart_done :
      is_done built.answer ≡ true → (last : Reply) → last ≡ queries_of built.planner queries (built_reply built old) →
      charted_of built last ≡ chart_of build queries planner samples old
  unfolding chart_of
  chart_done z last is_last = rw (← is, z, ← is_last)

  pub chart_refused : is_done built.answer ≡ false → charted_of built (built_reply built old) ≡ chart_of build queries planner samples old
  unfolding chart_of
  chart_refused h = rw (← is, h)
