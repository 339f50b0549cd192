-- The walk of pruning over a roadmap: what holds when a milestone is reached, and what one turn makes of it.
use Prim.Native.Nat.{ℕ, ◌+◌, ◌-◌, ◌<◌, ◌≤◌, min}
use mathlib.Core.Bool.{Bool, true, false, not, ◌&&◌}
use mathlib.Core.List.{List, [], ◌∷◌}
use mathlib.Core.Path.{◌≡◌, refl, sym, ◌∙◌, ap}
use native.Mathlib.Omega.{arith}
use lib.ListN.{length, get_or, set, length-set, length-append, replicate, take}
use lib.Seq.{get_or-take}
use lib.Ieee.{Float}
use Rattle.std.specs.Prelude.{Option, Some, None}
use Rattle.state.specs.Rows.{state_at}
use Rattle.state.specs.declared.State.{State}
use Rattle.keep_out.specs.Covers.{covers_of}
use Rattle.keep_out.specs.declared.KeepOut.{KeepOut}
use Rattle.legs.specs.Bits.{leg_at}
use Rattle.roadmap.specs.declared.Roadmap.{Roadmap}
use Rattle.roadmap.specs.Keep.{keep_of}
use Rattle.roadmap.specs.Map.{Milestone, add_of}
use Rattle.roadmap.specs.View.{span_of, view_of, milestones_of, empty_of, pushed_of, Clean, Joins}
use Rattle.roadmap.proofs.View.{view_long, empty_clean}
use Rattle.roadmap.proofs.Grows.{push_add, push_clean, push_sized}
use Rattle.prune.specs.Hit.{hit_of}
use Rattle.prune.specs.Prune.{left_of, pruned_of}
use Rattle.prune.specs.Numbers.{stayed_of, Numbers}
use Rattle.prune.proofs.Numbered.{stayed_gone, stayed_more, stayed_few, numbers_none, numbers_gone, numbers_kept}
use Rattle.prune.proofs.Turns.{left_kept, leaves_at, turn_gone, turn_kept, turn_end}

module _ (map : Roadmap) where
  -- the state of a former number
  abbrev pub was : ℕ → State
  was = state_at map.milestones

  abbrev pub size : ℕ
  size = min map.count 256

  -- its places that hold milestones
  module _ (held : List State) (many : length held ≡ length (milestones_of map)) where
    pub held_long : length held ≡ size
    unfolding milestones_of
    held_long = many ∙ view_long map.milestones map.legs size

    pub held_state : held ≡ take map.count map.milestones → (i : ℕ) → i < length held → state_at held i ≡ was i
    held_state is i h =
        let inside : i < map.count = omega (arith, held_long) in
        ap (λ (l : List State). state_at l i) is ∙ get_or-take map.count map.milestones i _ inside

module _ (map : Roadmap) (k : KeepOut) (segment : Float) where
  abbrev pub stayed : ℕ → List ℕ
  stayed = stayed_of k map.milestones

  -- the leg that the i-th of the former numbers keeps to the j-th that stays
  abbrev pub keeps : ℕ → ℕ → Bool
  keeps i j = leg_at map.legs i (get_or (stayed i) j 0) && not (hit_of segment k (was map i) (was map (get_or (stayed i) j 0)))

  left_is : (i : ℕ) → i ≤ size map → left_of (covers_of k) (hit_of segment k) (was map i) (span_of 0 i (was map)) (span_of 0 (size map) (leg_at map.legs i)) ≡ span_of 0 (length (stayed i)) (keeps i)
  unfolding stayed_of
  left_is i h = left_kept (covers_of k) (hit_of segment k) (was map) (was map i) (leg_at map.legs i) i (size map) h

  -- what the walk gives from the i-th milestone on
  abbrev pub leaves : List Milestone → ℕ → List Milestone
  leaves kept i = leaves_at (covers_of k) (hit_of segment k) (was map) (leg_at map.legs) (size map) kept i

  -- what holds when the milestone i is reached: this roadmap has those that stay so far, and the table their new numbers
  pub record Pruning (left : Roadmap) (at : List (Option ℕ)) (i : ℕ) : Type 0 where
    pub many : left.count ≡ length (stayed i)
    pub sized : length left.milestones ≡ 256
    pub at_sized : length at ≡ 256
    -- no leg beyond those that stay
    pub clean : Clean left.legs left.count
    pub table : Numbers (stayed i) at i
    pub is : pruned_of segment k (milestones_of map) ≡ leaves (milestones_of left) i

  pub prune_starts : Pruning empty_of (replicate 256 None) 0
  unfolding pruned_of milestones_of view_of span_of keep_of stayed_of empty_of
  prune_starts =
      let e : size map - 0 ≡ size map = omega arith in
      record { many = refl; sized = refl; at_sized = refl; clean = empty_clean; table = numbers_none 256; is = rw e }

module _ {map : Roadmap} {k : KeepOut} {segment : Float} {left : Roadmap} {at : List (Option ℕ)} {i : ℕ} (h : Pruning map k segment left at i) where
  pub few : left.count ≤ i
  few = omega (arith, h.many, stayed_few k map.milestones i)

  -- at the end this is the roadmap
  pub prune_ends : size map ≤ i → milestones_of left ≡ pruned_of segment k (milestones_of map)
  prune_ends e = sym (h.is ∙ turn_end (covers_of k) (hit_of segment k) (was map) (leg_at map.legs) (size map) _ i e)

  module _ (more : i < size map) where
    -- a milestone that is covered goes
    pub prune_gone : covers_of k (was map i) ≡ true → Pruning map k segment left at (i + 1)
    prune_gone e =
        let same = stayed_gone k map.milestones i e in
        record {
          many = h.many ∙ ap length (sym same);
          sized = h.sized;
          at_sized = h.at_sized;
          clean = h.clean;
          table = rw same (numbers_gone h.table);
          is = h.is ∙ turn_gone (covers_of k) (hit_of segment k) (was map) (leg_at map.legs) (size map) _ i more e;
        }

    -- another stays, with the legs that it keeps
    pub prune_kept :
        {legs : List ℕ} → covers_of k (was map i) ≡ false → Joins left.legs left.count left.count (keeps map k segment i) legs →
        Pruning map k segment (pushed_of (record { milestones = left.milestones; legs = legs; count = left.count }) (was map i)) (set at i (Some left.count)) (i + 1)
    unfolding pushed_of
    prune_kept {legs} e joins =
        let room : left.count < 256 = omega (arith, few) in
        let inside : i < length at = omega (arith, h.at_sized) in
        let grows = push_add left (keeps map k segment i) legs (was map i) room h.sized h.clean joins in
        let flags = left_is map k segment i (omega arith) in
        let longer = stayed_more k map.milestones i e in
        record {
          many = omega (arith, h.many, ap length longer, length-append (stayed map k segment i) (i ∷ []));
          sized = push_sized left (keeps map k segment i) legs (was map i) room h.sized h.clean joins;
          at_sized = length-set at i (Some left.count) ∙ h.at_sized;
          clean = push_clean left (keeps map k segment i) legs (was map i) room h.sized h.clean joins;
          table = rw longer (numbers_kept h.table h.many inside);
          is =
              h.is ∙ turn_kept (covers_of k) (hit_of segment k) (was map) (leg_at map.legs) (size map) _ i more e
              ∙ ap (λ (fs : List Bool). leaves map k segment (add_of (milestones_of left) (was map i) fs) (i + 1)) (flags ∙ ap (λ (n : ℕ). span_of 0 n (keeps map k segment i)) (sym h.many))
              ∙ ap (λ (ms : List Milestone). leaves map k segment ms (i + 1)) (sym grows);
        }
