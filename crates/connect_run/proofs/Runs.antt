-- A run that has come so far, what one turn of it does, and its ends.
use Prim.Native.Nat.{ℕ, ◌+◌, ◌/◌, ◌≤◌, ◌<◌}
use mathlib.Core.Bool.{Bool, true, false}
use mathlib.Core.List.{List, [], ◌∷◌}
use mathlib.Core.Path.{◌≡◌, refl, sym, ◌∙◌, ap}
use lib.ListN.{length}
use lib.Ieee.{Float}
use Rattle.answer.specs.declared.Answer.{Answer}
use Rattle.answer.specs.declared.Answer.TheVariants.{SamplesEnded}
use Rattle.fields.specs.declared.Goal.{Goal}
use Rattle.fields.specs.declared.Length.{Length}
use Rattle.mount.specs.declared.Mount.{Mount}
use Rattle.state.specs.declared.State.{State}
use Rattle.samples.specs.Samples.{samples_of, sample_of}
use Rattle.samples.proofs.Threes.{Walked, Turn, walk_next, walk_sample, walk_over, walk_ends}
use Rattle.tree.specs.declared.Tree.{Tree}
use Rattle.route.specs.Written.{written_of}
use Rattle.route.proofs.Stores.{nothing_written}
use Rattle.plan.specs.Plan.{Plan, plan_from}
use Rattle.plan.specs.Solve.{Ended, no_route}
use Rattle.turn.specs.declared.Ends.{Ends}
use Rattle.turn.specs.Trees.{Trees, trees_at}
use Rattle.round.specs.Round.{Round, round_of, Rounds}
use Rattle.ending.specs.Ending.{goes_on_of, answer_of, end_path, WroteEnd}
use Rattle.connect_run.specs.Run.{after_of, run_of, Runs}

abbrev ended_at : Ends → Trees → ℕ → Ended Trees
ended_at e t taken = record { tables = t; answer = answer_of e; path = end_path e t; taken = taken }

module _ (p : Plan) (trees : Trees) (taken : ℕ) (s : State) (ss : List State) (r : Round) (is : r ≡ round_of p trees s) where
  run_on : goes_on_of r.ends ≡ true → run_of p trees taken (s ∷ ss) ≡ run_of p r.trees (taken + 1) ss
  unfolding run_of after_of
  run_on h = rw (← is, h)

  run_stops : goes_on_of r.ends ≡ false → run_of p trees taken (s ∷ ss) ≡ ended_at r.ends r.trees (taken + 1)
  unfolding run_of after_of
  run_stops h = rw (← is, h)

-- A run so far: k samples are taken, in parts of `size` numbers, and the trees are t and u.
pub record Sofar (mount : Mount) (max : Length) (target : Goal) (start goal : Tree) (list old : List Float) (size k : ℕ) (rest : List Float) (t u : Tree) (out : List Float) : Type 0 where
  pub walked : Walked list size k rest
  pub start_rooted : (0 < t.count) × (t.count ≤ 512)
  pub goal_few : u.count ≤ 512
  pub kept : out ≡ old
  pub is : run_of (plan_from mount max target) (trees_at start goal) 0 (samples_of list) ≡ run_of (plan_from mount max target) (trees_at t u) k (samples_of rest)

module _ {mount : Mount} {max : Length} {target : Goal} {start goal : Tree} {list old : List Float} {size k : ℕ} {rest : List Float} {t u : Tree} {out : List Float}
    (w : Sofar mount max target start goal list old size k rest t u out) where
  abbrev p : Plan
  p = plan_from mount max target

  abbrev whole : Ended Trees
  whole = run_of p (trees_at start goal) 0 (samples_of list)

  pub run_ends : length rest < size → Runs mount max target start goal list old (record { answer = SamplesEnded; count = 0; taken = length list / 3 }) t u out
  run_ends h =
      record {
        ended = no_route (trees_at t u) SamplesEnded (length list / 3);
        is = sym (w.is ∙ ap (run_of p (trees_at t u) k) (walk_over w.walked h) ∙ over k ∙ ap (no_route (trees_at t u) SamplesEnded) (walk_ends w.walked h));
        trees = refl;
        answer = refl;
        count = refl;
        taken = refl;
        memory = w.kept ∙ sym (nothing_written old);
        some = w.start_rooted.0;
        room = (w.start_rooted.1, w.goal_few);
      }
    where
      over : (k : ℕ) → run_of p (trees_at t u) k [] ≡ no_route (trees_at t u) SamplesEnded k
      over k = unfold run_of in refl

  -- The next sample is s, of the numbers x. It is the i-th, and its round led to `ends` and the trees t' and u'.
  module _ {i : ℕ} {x : List Float} {size' k' : ℕ} {rest' : List Float} (turn : Turn size k rest i x size' k' rest')
      {s : State} (is-s : s ≡ sample_of x) {ends : Ends} {t' u' : Tree} (r : Rounds p (trees_at t u) s ends t' u') where
    taken_up : whole ≡ run_of p (trees_at t u) k (s ∷ samples_of rest')
    taken_up = w.is ∙ ap (run_of p (trees_at t u) k) (walk_sample w.walked turn ∙ ap (λ (y : State). y ∷ samples_of rest') (sym is-s))

    abbrev round : Round
    round = record { trees = trees_at t' u'; ends = ends }

    module _ {on : Bool} (goes : on ≡ goes_on_of ends) where
      pub turn_on : on ≡ true → Sofar mount max target start goal list old size' k' rest' t' u' out
      turn_on h =
          record {
            walked = walk_next w.walked turn;
            start_rooted = r.start_rooted;
            goal_few = r.goal_rooted.1;
            kept = w.kept;
            is = taken_up ∙ run_on p (trees_at t u) k s _ round r.is (sym goes ∙ h) ∙ ap (λ (n : ℕ). run_of p (trees_at t' u') n (samples_of rest')) (sym turn.next);
          }

      pub turn_ends :
          on ≡ false → {answer : Answer} → answer ≡ answer_of ends → {count : ℕ} {new : List Float} → WroteEnd ends (trees_at t' u') out count new →
          Runs mount max target start goal list old (record { answer = answer; count = count; taken = i + 1 }) t' u' new
      turn_ends h told wrote =
          record {
            ended = ended_at ends (trees_at t' u') (i + 1);
            is = sym (taken_up ∙ run_stops p (trees_at t u) k s _ round r.is (sym goes ∙ h) ∙ ap (λ (n : ℕ). ended_at ends (trees_at t' u') (n + 1)) (sym turn.counts));
            trees = refl;
            answer = told;
            count = wrote.count;
            taken = refl;
            memory = wrote.memory ∙ ap (written_of (end_path ends (trees_at t' u'))) w.kept;
            some = r.start_rooted.0;
            room = (r.start_rooted.1, r.goal_rooted.1);
          }
