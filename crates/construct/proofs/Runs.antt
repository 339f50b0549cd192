-- What one turn of construction does to its definition. Validity and the test for a leg stay names here.
use Prim.Native.Nat.{ℕ, ◌+◌, ◌/◌, ◌≤◌, ◌<◌, min}
use mathlib.Core.Bool.{Bool, true, false}
use mathlib.Core.List.{List, [], ◌∷◌}
use mathlib.Core.Path.{◌≡◌, sym, ◌∙◌, ap}
use native.Mathlib.Omega.{arith}
use borrow.Author.Tests.{lt-ltb, le-ltb, eq-eqb, ne_eqb}
use lib.ListN.{length, take}
use lib.Seq.{length-take-le}
use lib.Ieee.{Float}
use Rattle.answer.specs.declared.Answer.TheVariants.{Done, Full}
use Rattle.state.specs.Rows.{state_at}
use Rattle.state.specs.declared.State.{State}
use Rattle.fields.specs.declared.Limits.{Limits}
use Rattle.keep_out.specs.declared.KeepOut.{KeepOut}
use Rattle.motion.specs.Valid.{valid_of}
use Rattle.samples.specs.Samples.{samples_of, sample_of}
use Rattle.samples.proofs.Threes.{Walked, Turn, walk_starts, walk_next, walk_sample, walk_over, walk_ends}
use Rattle.roadmap.specs.Map.{Milestone, add_of, flags_of}
use Rattle.roadmap.specs.View.{milestones_of, empty_of, pushed_of, Clean, Joins}
use Rattle.roadmap.specs.declared.Roadmap.{Roadmap}
use Rattle.roadmap.proofs.View.{view_long, flags_held, milestones_long, empty_is, empty_room, empty_sized, empty_clean}
use Rattle.roadmap.proofs.Grows.{push_add, push_clean, push_sized, push_room}
use Rattle.construct.specs.Construct.{Constructed, joined_of, run_of, construct_of}

module _ (limits : Limits) (segment : Float) (ks : List KeepOut) (radius : Float) where
  abbrev pub run : List Milestone → ℕ → List State → Constructed
  run ms taken ss = run_of limits segment ks radius ms taken ss

  -- on a roadmap that is empty construction is the run, and on another it is done
  pub construct_none : (m : Roadmap) (ss : List State) → m.count ≡ 0 → construct_of limits segment ks radius (milestones_of m) ss ≡ run [] 0 ss
  unfolding construct_of
  construct_none m ss e = let none = milestones_long m (omega arith) in rw (eq-eqb (length (milestones_of m)) 0 (none ∙ e))

  pub construct_some :
      (m : Roadmap) (ss : List State) → (m.count ≡ 0 → ⊥) → construct_of limits segment ks radius (milestones_of m) ss ≡ record { map = milestones_of m; answer = Done; taken = 0 }
  unfolding construct_of milestones_of
  construct_some m ss e = rw (view_long m.milestones m.legs (min m.count 256), ne_eqb (min m.count 256) 0 (λ z. e (omega arith)))

  -- a valid sample, where there is a place left
  run_added :
      (ms : List Milestone) (taken : ℕ) (s : State) (ss : List State) → valid_of limits ks s ≡ true → length ms < 256 →
      run ms taken (s ∷ ss) ≡ run (add_of ms s (flags_of (joined_of limits segment ks radius) ms s)) (taken + 1) ss
  unfolding run_of
  run_added ms taken s ss e k = rw (e, lt-ltb (length ms) 256 k)

  -- what holds when so many samples are taken, and `rest` is left: the run so far has come to this roadmap
  pub record Building (l : List Float) (m : Roadmap) (size taken : ℕ) (rest : List Float) : Type 0 where
    pub walk : Walked l size taken rest
    pub room : m.count ≤ 256
    pub sized : length m.milestones ≡ 256
    -- no leg beyond the milestones
    pub clean : Clean m.legs m.count
    pub is : run [] 0 (samples_of l) ≡ run (milestones_of m) taken (samples_of rest)

  pub build_starts : {l : List Float} {size : ℕ} {rest : List Float} → size ≡ 3 → rest ≡ l → Building l empty_of size 0 rest
  build_starts e r = record { walk = walk_starts e r; room = empty_room; sized = empty_sized; clean = empty_clean; is = rw (r, empty_is) }

module _ {limits : Limits} {segment : Float} {ks : List KeepOut} {radius : Float} {l : List Float} {m : Roadmap} {size taken : ℕ} {rest : List Float}
    (h : Building limits segment ks radius l m size taken rest) where
  abbrev from : List Milestone → ℕ → List State → Constructed
  from = run limits segment ks radius

  abbrev whole : Constructed
  whole = from [] 0 (samples_of l)

  -- the list is used up
  pub build_ends : length rest < size → whole ≡ record { map = milestones_of m; answer = Done; taken = length l / 3 }
  unfolding run_of
  build_ends e = h.is ∙ ap (from (milestones_of m) taken) (walk_over h.walk e) ∙ rw (walk_ends h.walk e)

  -- the next sample, the state s of the numbers x
  module _ {i : ℕ} {x : List Float} {size' taken' : ℕ} {rest' : List Float} (turn : Turn size taken rest i x size' taken' rest') {s : State} (read : s ≡ sample_of x) where
    abbrev earlier : List State
    earlier = take m.count m.milestones

    abbrev later : List State
    later = samples_of rest'

    next_is : whole ≡ from (milestones_of m) taken (s ∷ later)
    next_is = rw read (h.is ∙ ap (from (milestones_of m) taken) (walk_sample h.walk turn))

    module _ {valid : Bool} (tested : valid ≡ valid_of limits ks s) where
      pub build_full : valid ≡ true → m.count ≡ 256 → whole ≡ record { map = []; answer = Full; taken = i + 1 }
      build_full e k = rw turn.counts (next_is ∙ (unfold run_of in rw (← tested, e, milestones_long m h.room, le-ltb m.count 256 (omega arith))))

      -- a sample that is not valid changes nothing
      pub build_passed : valid ≡ false → Building limits segment ks radius l m size' taken' rest'
      build_passed e =
          record {
            walk = walk_next h.walk turn;
            room = h.room;
            sized = h.sized;
            clean = h.clean;
            is = rw turn.next (next_is ∙ (unfold run_of in rw (← tested, e)));
          }

      -- a valid one becomes a milestone, joined to those that it reaches
      pub build_added :
          {legs : List ℕ} → valid ≡ true → m.count < 256 →
          Joins m.legs (length earlier) (length earlier) (λ (j : ℕ). joined_of limits segment ks radius s (state_at earlier j)) legs →
          Building limits segment ks radius l (pushed_of (record { milestones = m.milestones; legs = legs; count = m.count }) s) size' taken' rest'
      build_added {legs} e k new =
          let reached : ℕ → Bool = λ j. joined_of limits segment ks radius s (state_at earlier j) in
          let many : length earlier ≡ m.count = length-take-le m.count m.milestones (omega (arith, h.sized)) in
          let joins = rw many at new in
          let grows = push_add m reached legs s k h.sized h.clean joins in
          let flags = flags_held (joined_of limits segment ks radius) m s h.room in
          record {
            walk = walk_next h.walk turn;
            room = push_room m reached legs s k h.sized h.clean joins;
            sized = push_sized m reached legs s k h.sized h.clean joins;
            clean = push_clean m reached legs s k h.sized h.clean joins;
            is =
                rw turn.next
                (next_is ∙ run_added limits segment ks radius (milestones_of m) taken s later (sym tested ∙ e) (rw (milestones_long m h.room) k)
                ∙ ap (λ (fs : List Bool). from (add_of (milestones_of m) s fs) (taken + 1) later) flags
                ∙ ap (λ (ms : List Milestone). from ms (taken + 1) later) (sym grows));
          }
