-- A setup's and a solve's answer from their tests, for any plan and any tables.
use Prim.Native.Nat.{ℕ, ◌≤◌, ◌<◌}
use mathlib.Core.Bool.{Bool, true, false}
use mathlib.Core.List.{List}
use mathlib.Core.Path.{◌≡◌, ◌∙◌}
use borrow.Author.Tests.{lt-ltb, le-ltb}
use lib.ListN.{length}
use lib.Ieee.{Float}
use Rattle.answer.specs.declared.Answer.{Answer}
use Rattle.answer.specs.declared.Answer.TheVariants.{Done, Uninitialised, BadInput, Room}
use Rattle.state.specs.declared.State.{State}
use Rattle.samples.specs.Samples.{good_samples, samples_of}
use Rattle.route.specs.Written.{written_of}
use Rattle.plan.specs.Plan.{Planner, view_of}
use Rattle.plan.specs.Setup.{setup_with}
use Rattle.plan.specs.Solve.{Ended, Outcome, refused_of, ended_of, solve_with}
use Rattle.plan.proofs.Views.{view_set, view_unset}

module _ {P A : Type 0} (planner : Planner P A) (good : Bool) (plan : P) (fresh : A) where
  pub setup_refused : good ≡ false → record { planner = planner; answer = BadInput } ≡ setup_with planner good plan fresh
  unfolding setup_with
  setup_refused e = rw e

  pub setup_done :
      good ≡ true → (usable : Bool) → usable ≡ true → (tables : A) → tables ≡ fresh →
      record { planner = view_of usable plan tables; answer = Done } ≡ setup_with planner good plan fresh
  unfolding setup_with
  setup_done e usable u tables is = rw (view_set usable plan tables u, is, e)

-- the planner's view before, and whether it could be used
module _ {P A : Type 0} (needed : ℕ) (run : P → A → List State → Ended A) (usable : Bool) (plan : P) (tables : A) (samples route : List Float) where
  abbrev planner : Planner P A
  planner = view_of usable plan tables

  abbrev outcome : Outcome P A
  outcome = solve_with needed run planner samples route

  pub solve_unset : usable ≡ false → refused_of planner Uninitialised route ≡ outcome
  unfolding solve_with
  solve_unset u = rw (view_unset usable plan tables u)

  module _ (u : usable ≡ true) where
    pub solve_room : length route < needed → refused_of planner Room route ≡ outcome
    unfolding solve_with
    solve_room h = rw (view_set usable plan tables u, lt-ltb (length route) needed h)

    module _ (h : needed ≤ length route) where
      pub solve_bad : good_samples samples ≡ false → refused_of planner BadInput route ≡ outcome
      unfolding solve_with
      solve_bad g = rw (view_set usable plan tables u, le-ltb (length route) needed h, g)

      ran : good_samples samples ≡ true → ended_of plan (run plan tables (samples_of samples)) route ≡ outcome
      unfolding solve_with
      ran g = rw (view_set usable plan tables u, le-ltb (length route) needed h, g)

      -- what the run left, part by part
      module _ (e : Ended A) (is : e ≡ run plan tables (samples_of samples)) (still : Bool) (s : still ≡ true) where
        pub solve_ran :
            good_samples samples ≡ true →
            (grown : A) → grown ≡ e.tables →
            (answer : Answer) → answer ≡ e.answer →
            (count : ℕ) → count ≡ length e.path →
            (taken : ℕ) → taken ≡ e.taken →
            (new : List Float) → new ≡ written_of e.path route →
            record { planner = view_of still plan grown; answer = answer; count = count; taken = taken; route = new } ≡ outcome
        solve_ran g grown t answer a count c taken k new m = whole ∙ ran g
          where
            whole : record { planner = view_of still plan grown; answer = answer; count = count; taken = taken; route = new } ≡ ended_of plan (run plan tables (samples_of samples)) route
            whole = unfold ended_of in rw (view_set still plan grown s, t, a, c, k, m, is)
