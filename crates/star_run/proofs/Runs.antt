-- A run that has come so far, what one turn of it does, and its ends. The growing step stays a name here.
use Prim.Native.Nat.{ℕ, ◌+◌, ◌-◌, ◌*◌, ◌/◌, ◌≤◌, ◌<◌}
use mathlib.Core.Bool.{Bool, true, false}
use mathlib.Core.List.{List, [], ◌∷◌}
use mathlib.Core.Path.{◌≡◌, refl, sym, ◌∙◌, ap}
use native.Mathlib.Omega.{arith}
use lib.ListN.{length}
use lib.Ieee.{Float}
use Rattle.answer.specs.declared.Answer.TheVariants.{Done, SamplesEnded, Full}
use Rattle.fields.specs.Satisfied.{satisfied_of}
use Rattle.fields.specs.declared.Goal.{Goal}
use Rattle.fields.specs.declared.Length.{Length}
use Rattle.mount.specs.declared.Mount.{Mount}
use Rattle.state.specs.declared.State.{State}
use Rattle.samples.specs.Samples.{samples_of, sample_of}
use Rattle.samples.proofs.Threes.{Walked, Turn, walk_next, walk_sample, walk_over, walk_ends}
use Rattle.tree.specs.Table.{nodes_of}
use Rattle.tree.specs.declared.Tree.{Tree}
use Rattle.tree.proofs.Nodes.{nodes_length}
use Rattle.extend.specs.declared.Verdict.TheVariants as verdict
use Rattle.route.specs.Path.{path_of}
use Rattle.route.specs.Written.{Wrote, written_of}
use Rattle.route.proofs.Stores.{nothing_written}
use Rattle.plan.specs.Solve.{Ended, no_route}
use Rattle.star.specs.declared.Grown.{Grown}
use Rattle.star.specs.Grow.{Costed, tree_of, Grows}
use Rattle.star_run.specs.Run.{StarPlan, star_plan, newest, after_of, run_of, Runs}

-- A run so far: k samples are taken, in parts of `size` numbers, and the tree is t with these costs.
pub record Sofar (mount : Mount) (max radius : Length) (goal : Goal) (rooted : Tree) (costs₀ list old : List Float) (size k : ℕ) (rest : List Float) (t : Tree) (costs : List Float)
    (found : List ℕ) (out : List Float) : Type 0 where
  pub walked : Walked list size k rest
  pub grown : (0 < t.count) × (t.count ≤ 512) × (length costs ≡ 512) × (length found ≡ 512)
  pub kept : out ≡ old
  pub is : run_of (star_plan mount max radius goal) (tree_of rooted costs₀) 0 (samples_of list) ≡ run_of (star_plan mount max radius goal) (tree_of t costs) k (samples_of rest)

module _ {mount : Mount} {max radius : Length} {goal : Goal} {rooted : Tree} {costs₀ list old : List Float} {size k : ℕ} {rest : List Float} {t : Tree} {costs : List Float}
    {found : List ℕ} {out : List Float} (w : Sofar mount max radius goal rooted costs₀ list old size k rest t costs found out) where
  abbrev p : StarPlan
  p = star_plan mount max radius goal

  abbrev whole : Ended Costed
  whole = run_of p (tree_of rooted costs₀) 0 (samples_of list)

  pub run_ends : length rest < size → Runs mount max radius goal rooted costs₀ list old (record { answer = SamplesEnded; count = 0; taken = length list / 3 }) t costs out
  run_ends h =
      record {
        ended = no_route (tree_of t costs) SamplesEnded (length list / 3);
        is = sym (w.is ∙ ap (run_of p (tree_of t costs) k) (walk_over w.walked h) ∙ over k ∙ ap (no_route (tree_of t costs) SamplesEnded) (walk_ends w.walked h));
        tree = refl;
        answer = refl;
        count = refl;
        taken = refl;
        memory = w.kept ∙ sym (nothing_written old);
        some = w.grown.0;
        room = w.grown.1;
      }
    where
      over : (k : ℕ) → run_of p (tree_of t costs) k [] ≡ no_route (tree_of t costs) SamplesEnded k
      over k = unfold run_of in refl

  -- The next sample is s, of the numbers x. It is the i-th, and g is what it grew: the tree is t' then.
  module _ {i : ℕ} {x : List Float} {size' k' : ℕ} {rest' : List Float} (turn : Turn size k rest i x size' k' rest') {s : State} (is-s : s ≡ sample_of x)
      {g : Grown} {t' : Tree} {costs' : List Float} {found' : List ℕ} (grows : Grows p.reach (tree_of t costs) s g t' costs' found') where
    abbrev after : Costed
    after = tree_of t' costs'

    abbrev later : Ended Costed
    later = run_of p after (k + 1) (samples_of rest')

    grown-by : run_of p (tree_of t costs) k (s ∷ samples_of rest') ≡ after_of goal after g.verdict g.at (k + 1) later
    unfolding run_of
    grown-by = rw (← grows.is)

    taken_up : whole ≡ after_of goal after g.verdict g.at (k + 1) later
    taken_up = w.is ∙ ap (run_of p (tree_of t costs) k) (walk_sample w.walked turn ∙ ap (λ (y : State). y ∷ samples_of rest') (sym is-s)) ∙ grown-by

    on : whole ≡ later → Sofar mount max radius goal rooted costs₀ list old size' k' rest' t' costs' found' out
    on e =
        record {
          walked = walk_next w.walked turn;
          grown = (grows.some, grows.room, grows.sized.0, grows.sized.1);
          kept = w.kept;
          is = e ∙ ap (λ (n : ℕ). run_of p after n (samples_of rest')) (sym turn.next);
        }

    pub turn_refused : g.verdict ≡ verdict.Refused → Sofar mount max radius goal rooted costs₀ list old size' k' rest' t' costs' found' out
    unfolding after_of
    turn_refused h = on (taken_up ∙ rw h)

    pub turn_full : g.verdict ≡ verdict.Full → Runs mount max radius goal rooted costs₀ list old (record { answer = Full; count = 0; taken = i + 1 }) t' costs' out
    turn_full h =
        record {
          ended = no_route after Full (i + 1);
          is = sym (taken_up ∙ full ∙ ap (λ (n : ℕ). no_route after Full (n + 1)) (sym turn.counts));
          tree = refl;
          answer = refl;
          count = refl;
          taken = refl;
          memory = w.kept ∙ sym (nothing_written old);
          some = grows.some;
          room = grows.room;
        }
      where
        full : after_of goal after g.verdict g.at (k + 1) later ≡ no_route after Full (k + 1)
        full = unfold after_of in rw h

    module _ (h : g.verdict ≡ verdict.Added) {sat : Bool} (is-sat : sat ≡ satisfied_of goal g.at) where
      pub turn_added : sat ≡ false → Sofar mount max radius goal rooted costs₀ list old size' k' rest' t' costs' found' out
      unfolding after_of
      turn_added other = on (taken_up ∙ rw (h, ← is-sat, other))

      -- n nodes stand in the tree
      module _ {n : ℕ} (many : n ≡ length (nodes_of t').states) where
        pub some_nodes : length t'.nodes ≡ 512 → 0 < n
        some_nodes sized = omega (arith, many, grows, nodes_length t' (omega (arith, sized, grows)))

        -- what is asked of the way to the newest
        pub way_in : length t'.nodes ≡ 512 → 1536 ≤ length old → (n - 1 < t'.count) × (t'.count ≤ 512) × (3 * t'.count ≤ length out)
        way_in sized l =
            (omega (arith, many, grows, nodes_length t' (omega (arith, sized, grows))), grows.room, omega (arith, grows, l, ap length w.kept))

        abbrev found_at : ℕ → ℕ → Ended Costed
        found_at node taken = record { tables = after; answer = Done; path = path_of (nodes_of t') node; taken = taken }

        pub turn_found :
            sat ≡ true → {count : ℕ} {new : List Float} → Wrote (nodes_of t') (n - 1) out count new →
            Runs mount max radius goal rooted costs₀ list old (record { answer = Done; count = count; taken = i + 1 }) t' costs' new
        turn_found met {count} {new} wrote =
            record {
              ended = found_at (n - 1) (i + 1);
              is = sym (taken_up ∙ done ∙ ap (λ (m : ℕ). found_at (m - 1) (k + 1)) (sym many) ∙ ap (λ (m : ℕ). found_at (n - 1) (m + 1)) (sym turn.counts));
              tree = refl;
              answer = refl;
              count = wrote.count;
              taken = refl;
              memory = wrote.memory ∙ ap (written_of (path_of (nodes_of t') (n - 1))) w.kept;
              some = grows.some;
              room = grows.room;
            }
          where
            done : after_of goal after g.verdict g.at (k + 1) later ≡ found_at (newest after) (k + 1)
            done = unfold after_of in rw (h, ← is-sat, met)
