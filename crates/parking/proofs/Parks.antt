-- Keep-outs that are added row by row, from what each adding gave; and a construction with them.
use Prim.Native.Nat.{ℕ, suc, ◌+◌, ◌-◌, ◌≤◌, ◌<◌}
use mathlib.Core.Bool.{Bool, true, false}
use mathlib.Core.List.{List}
use mathlib.Core.Path.{◌≡◌, sym, ◌∙◌, ap}
use native.Mathlib.Omega.{arith}
use borrow.Author.Tests.{lt-ltb, le-ltb}
use lib.Dec.{eqb}
use lib.Ieee.{Float}
use Rattle.answer.specs.declared.Answer.{Answer}
use Rattle.answer.specs.Number.{number_of}
use Rattle.answer.specs.declared.Answer.TheVariants.{Done}
use Rattle.keep_out.specs.declared.KeepOut.{KeepOut}
use Rattle.columns.specs.Rows.{keep_out_at_of}
use Rattle.plan.specs.Setup.{Told}
use Rattle.roadmap.specs.Map.{Milestone}
use Rattle.prm.specs.Planner as prm
use Rattle.prm.specs.Planner.{Given}
use Rattle.prm.specs.Construct.{Construction, construct_of}
use Rattle.prm.specs.Adding.{add_of}
use Rattle.parking.specs.Park.{full_of, park_of, build_of}

-- the answer is document 01's 0
abbrev pub is_done : Answer → Bool
is_done answer = eqb (number_of answer) 0

-- `whole` is what all rows give, and what the rows after the first k of them give
module _ (kinds : List ℕ) (numbers : List Float) (whole : Told Given (List Milestone)) (planner : prm.View) (added first k : ℕ) (is : whole ≡ park_of kinds numbers planner (added - k) (first + k)) where
  pub park_ended : added ≤ k → record { planner = planner; answer = Done } ≡ whole
  unfolding park_of
  park_ended h = let e : added - k ≡ 0 = omega arith in sym (is ∙ ap (λ (n : ℕ). park_of kinds numbers planner n (first + k)) e)

  module _ (h : k < added) where
    next : whole ≡ park_of kinds numbers planner (suc (added - (k + 1))) (first + k)
    next = let e : added - k ≡ suc (added - (k + 1)) = omega arith in is ∙ ap (λ (n : ℕ). park_of kinds numbers planner n (first + k)) e

    pub park_full : 32 ≤ first + k → full_of planner ≡ whole
    unfolding park_of
    park_full past = sym (next ∙ rw (le-ltb (first + k) 32 past))

    module _ (row : first + k < 32) (held : KeepOut) (is-held : held ≡ keep_out_at_of kinds numbers (first + k)) (told : Told Given (List Milestone)) (is-told : told ≡ add_of planner held) where
      pub park_on : is_done told.answer ≡ true → whole ≡ park_of kinds numbers told.planner (added - (k + 1)) (first + (k + 1))
      unfolding park_of
      park_on z =
          let e : first + k + 1 ≡ first + (k + 1) = omega arith in
          next ∙ rw (lt-ltb (first + k) 32 row, ← is-held, ← is-told, z, e)

      pub park_stopped : is_done told.answer ≡ false → told ≡ whole
      unfolding park_of
      park_stopped refused = sym (next ∙ rw (lt-ltb (first + k) 32 row, ← is-held, ← is-told, refused))

module _ (kinds : List ℕ) (numbers : List Float) (first added : ℕ) (planner : prm.View) (samples : List Float) (built : Construction) (is : built ≡ construct_of planner samples) where
  pub build_parked :
      is_done built.answer ≡ true → (parked : Told Given (List Milestone)) → parked ≡ park_of kinds numbers built.planner added first →
      record { planner = parked.planner; answer = parked.answer; taken = built.taken } ≡ build_of kinds numbers first added planner samples
  unfolding build_of
  build_parked z parked is-parked = rw (← is, z, ← is-parked)

  pub build_refused : is_done built.answer ≡ false → built ≡ build_of kinds numbers first added planner samples
  unfolding build_of
  build_refused h = rw (← is, h)
