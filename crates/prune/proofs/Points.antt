-- The walk over a motion's checked points: what one turn of its loop does to the definition, and the cases of the test.
use Prim.Native.Nat.{ℕ, zero, suc, ◌+◌, ◌≤◌, ◌<◌}
use mathlib.Core.Bool.{Bool, true, false, cond, ◌||◌, or-false}
use mathlib.Core.List.{List, [], ◌∷◌}
use mathlib.Core.Path.{◌≡◌, refl, sym, ◌∙◌}
use native.Mathlib.Omega.{arith}
use borrow.Author.Tests.{le-leb, lt-leb}
use lib.Ieee.{Float}
use Rattle.std.specs.List.{list_any, range_with_len}
use Rattle.laws.specs.Order.{whether, clash}
use Rattle.state.specs.declared.State.{State}
use Rattle.keep_out.specs.Covers.{covers_of}
use Rattle.keep_out.specs.declared.KeepOut.{KeepOut}
use Rattle.std.specs.Prelude.{Some, None}
use Rattle.motion.specs.Points.{Checked, too_many, points, part_way, part_ways, tested_of, steps_of, checked_at, checked_of}
use Rattle.prune.specs.Hit.{meets_of, hit_among, hit_of, CoversPoint}

either : (b c : Bool) → cond b true c ≡ b || c
either true c = refl
either false c = refl

module _ (k : KeepOut) (from to : State) (n : ℕ) where
  abbrev pub covers_way : ℕ → Bool
  covers_way i = covers_of k (part_way from to n i)

  -- the points by their numbers
  meets_any : (i m : ℕ) → meets_of k (part_ways from to n i m) ≡ list_any covers_way (range_with_len i m)
  unfolding meets_of part_ways
  meets_any i zero = refl
  meets_any i (suc m) = rw (meets_any (i + 1) m) (either (covers_way i) (list_any covers_way (range_with_len (i + 1) m)))

module _ (segment : Float) (k : KeepOut) (from to : State) where
  pub hit_many : None ≡ steps_of segment from to → false ≡ hit_of segment k from to
  unfolding hit_of checked_of checked_at hit_among
  hit_many e = rw (← e)

  module _ (n : ℕ) (e : Some n ≡ steps_of segment from to) where
    pub hit_near : n ≤ 1 → covers_of k to ≡ hit_of segment k from to
    unfolding hit_of checked_of checked_at hit_among tested_of meets_of
    hit_near h = rw (← e, le-leb n 1 h) (sym (either (covers_of k to) false ∙ or-false (covers_of k to)))

    pub hit_walk : 1 < n → list_any (covers_way k from to n) (range_with_len 1 n) ≡ hit_of segment k from to
    unfolding hit_of checked_of checked_at hit_among tested_of
    hit_walk h = rw (← e, lt-leb n 1 h) (sym (meets_any k from to n 1 n))

-- what a hit is: one of the checked points is covered
module _ (k : KeepOut) where
  here : (s : State) (ss : List State) → covers_of k s ≡ true → CoversPoint k (points (s ∷ ss))
  here s ss e = record { tested = s ∷ ss; are = refl; p = 0; within = omega arith; covers = λ d. e }

  later : (s : State) (ss : List State) → CoversPoint k (points ss) → CoversPoint k (points (s ∷ ss))
  later s ss c =
      let e : ss ≡ c.tested = cc in
      record { tested = s ∷ c.tested; are = rw e; p = suc c.p; within = omega (arith, c.within); covers = c.covers }

  meets_point : (ss : List State) → meets_of k ss ≡ true → CoversPoint k (points ss)
  unfolding meets_of
  meets_point [] h = clash false h refl
  meets_point (s ∷ ss) h = whether (covers_of k s) (here s ss) (λ e. later s ss (meets_point ss (rw e at h)))

  among_point : (c : Checked) → hit_among k c ≡ true → CoversPoint k c
  unfolding hit_among
  among_point too_many h = clash false h refl
  among_point (points ss) h = meets_point ss h

  pub hit_point : (segment : Float) (from to : State) → hit_of segment k from to ≡ true → CoversPoint k (checked_of segment from to)
  unfolding hit_of
  hit_point segment from to h = among_point (checked_of segment from to) h
