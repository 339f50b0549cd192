-- A call of the host, from what its test of the kinds, its setup and its solve gave; for any planner.
use Prim.Native.Nat.{ℕ}
use mathlib.Core.Bool.{Bool, true, false}
use mathlib.Core.List.{List}
use mathlib.Core.Path.{◌≡◌, refl, sym, ◌∙◌, ap}
use lib.Dec.{eqb}
use lib.Ieee.{Float}
use Rattle.answer.specs.Number.{number_of}
use Rattle.answer.specs.declared.Answer.{Answer}
use Rattle.answer.specs.declared.Answer.TheVariants.{BadInput}
use Rattle.keep_out_table.specs.declared.KeepOuts.{KeepOuts}
use Rattle.plan.specs.Plan.{Planner, unset}
use Rattle.plan.specs.Setup.{Told}
use Rattle.plan.specs.Solve.{Outcome, outcome_of}
use Rattle.plan.specs.declared.Solved.{Solved}
use Rattle.listing.specs.Table.{Listed}
use Rattle.host.specs.Call.{call_with, Reports, Called}
use Rattle.host.specs.declared.Report.{Report}

abbrev pub is_done : Answer → Bool
is_done answer = eqb (number_of answer) 0

-- what is reported of an answer, and of a solve
abbrev pub refusal_of : Answer → Report
refusal_of answer = record { answer = number_of answer; count = 0; taken = 0 }

abbrev pub report_of : Solved → Report
report_of solved = record { answer = number_of solved.answer; count = solved.count; taken = solved.taken }

-- `tell` is the planner's setup, `known` what the test of the kinds gave, and `all` what it should give
module _ {P A : Type 0} (solve : Planner P A → List Float → List Float → Outcome P A) (tell : Planner P A → KeepOuts → Told P A) (samples old : List Float)
    (kinds : List ℕ) (numbers : List Float) (count : ℕ) (table : KeepOuts) (listed : Listed kinds numbers count table) {all : Bool} (known : Bool) (is : known ≡ all) where
  abbrev call : KeepOuts → Outcome P A
  call t = call_with solve all (tell unset t) samples old

  abbrev Calls : Report → List Float → Type 0
  Calls r new = Called call kinds numbers count r new

  gives : (r : Report) (new : List Float) → Reports (call_with solve known (tell unset table) samples old) r new → Calls r new
  gives r new w = record { table = table; listed = listed; gives = rw (← is) w }

  unknown : known ≡ false → Reports (call_with solve known (tell unset table) samples old) (refusal_of BadInput) old
  unfolding call_with
  unknown e = rw e (record { answer = refl; count = refl; taken = refl; memory = refl })

  pub call_unknown : known ≡ false → (r : Report) → r ≡ refusal_of BadInput → Calls r old
  call_unknown e r is-r = rw is-r (gives _ _ (unknown e))

  module _ (e : known ≡ true) (fresh : Planner P A) (is-new : fresh ≡ unset) (made : Told P A) (is_made : made ≡ tell fresh table) where
    told : tell unset table ≡ made
    told = sym (is_made ∙ ap (λ (p : Planner P A). tell p table) is-new)

    refused : is_done made.answer ≡ false → Reports (call_with solve known made samples old) (refusal_of made.answer) old
    unfolding call_with
    refused h = rw (e, h) (record { answer = refl; count = refl; taken = refl; memory = refl })

    pub call_refused : is_done made.answer ≡ false → (r : Report) → r ≡ refusal_of made.answer → Calls r old
    call_refused h r is-r = rw is-r (gives _ _ (rw told (refused h)))

    solved : is_done made.answer ≡ true → (o : Outcome P A) → o ≡ solve made.planner samples old → Reports (call_with solve known made samples old) (record { answer = number_of o.answer; count = o.count; taken = o.taken }) o.route
    unfolding call_with
    solved h o is-o = rw (e, h, ← is-o) (record { answer = refl; count = refl; taken = refl; memory = refl })

    pub call_solved :
        is_done made.answer ≡ true → (after : Planner P A) (s : Solved) (new : List Float) → outcome_of after s new ≡ solve made.planner samples old →
        (r : Report) → r ≡ report_of s → Calls r new
    call_solved h after s new is-o r is-r = rw is-r (gives _ _ (rw told (solved h (outcome_of after s new) is-o)))
