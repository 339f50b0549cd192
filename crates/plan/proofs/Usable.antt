-- What the test of a usable planner shows.
use Prim.Native.Nat.{ℕ, ◌≤◌, ◌<◌}
use mathlib.Core.Bool.{Bool, true, false, ◌&&◌}
use mathlib.Core.Path.{◌≡◌, sym, ◌∙◌}
use borrow.Author.Tests.{lt-ltb, le-leb, ltb-true, leb-true}
use lib.Dec.{ltb, leb}
use Rattle.laws.specs.Order.{whether, clash}
use Rattle.state.specs.declared.State.{State}
use Rattle.tree.specs.Table.{rooted_of}
use Rattle.plan.specs.Setup.{usable_of}

module _ (ready : Bool) (count : ℕ) where
  pub usable_yes : ready ≡ true → 0 < count → leb count 512 ≡ usable_of ready count
  unfolding usable_of
  usable_yes e h = rw (e, lt-ltb 0 count h)

  pub usable_no : ready ≡ false → false ≡ usable_of ready count
  unfolding usable_of
  usable_no e = rw e

  -- a tree that is its root alone
  pub usable_root : (start : State) → ready ≡ true → count ≡ (rooted_of start).count → usable_of ready count ≡ true
  unfolding usable_of rooted_of
  usable_root start e r = rw (e, r)

  -- a count that a tree can have is usable
  pub usable_count : ready ≡ true → 0 < count → count ≤ 512 → usable_of ready count ≡ true
  usable_count e h l = sym (usable_yes e h) ∙ le-leb count 512 l

  module _ (u : usable_of ready count ≡ true) where
    -- a usable planner was set up
    pub usable_ready : ready ≡ true
    usable_ready = whether ready (λ e. e) (λ e. clash (usable_of ready count) u (sym (usable_no e)))

    pub usable_some : 0 < count
    usable_some = whether (ltb 0 count) (λ e. ltb-true 0 count e) (λ e. clash (usable_of ready count) u (unfold usable_of in no e))
      where
        no : ltb 0 count ≡ false → ready && ltb 0 count && leb count 512 ≡ false
        no e = whether ready (λ r. rw (r, e)) (λ r. rw r)

    pub usable_most : count ≤ 512
    usable_most = whether (leb count 512) (λ e. leb-true count 512 e) (λ e. clash (usable_of ready count) u (unfold usable_of in no e))
      where
        no : leb count 512 ≡ false → ready && ltb 0 count && leb count 512 ≡ false
        no e = whether ready (λ r. whether (ltb 0 count) (λ z. rw (r, z, e)) (λ z. rw (r, z))) (λ r. rw r)
