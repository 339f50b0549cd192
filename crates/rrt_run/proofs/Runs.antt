-- A run that has come so far, what one turn of it does, and its ends.
use Prim.Native.Nat.{ℕ, ◌+◌, ◌*◌, ◌/◌, ◌≤◌, ◌<◌}
use mathlib.Core.Bool.{Bool, true, false, not}
use mathlib.Core.List.{List, [], ◌∷◌}
use mathlib.Core.Path.{◌≡◌, refl, sym, ◌∙◌, ap}
use native.Mathlib.Omega.{arith}
use borrow.Author.Tests.{lt-ltb, le-ltb}
use lib.ListN.{length}
use lib.Ieee.{Float}
use Rattle.answer.specs.declared.Answer.TheVariants.{Done, SamplesEnded, Full}
use Rattle.fields.specs.Satisfied.{satisfied_of}
use Rattle.fields.specs.declared.Goal.{Goal}
use Rattle.fields.specs.declared.Length.{Length}
use Rattle.mount.specs.declared.Mount.{Mount}
use Rattle.state.specs.declared.State.{State}
use Rattle.samples.specs.Samples.{samples_of, sample_of}
use Rattle.samples.proofs.Threes.{Walked, Turn, walk_next, walk_sample, walk_over, walk_ends}
use Rattle.tree.specs.Table.{Nodes, states_of, nodes_of, grown_of, pushed_of}
use Rattle.tree.specs.declared.Tree.{Tree}
use Rattle.tree.proofs.Nodes.{states_are, nodes_length}
use Rattle.tree.proofs.Push.{push_grows}
use Rattle.step.specs.Step.{step_of}
use Rattle.step.specs.declared.Stepped.{Stepped}
use Rattle.route.specs.Path.{path_of}
use Rattle.route.specs.Written.{Wrote, written_of}
use Rattle.route.proofs.Stores.{nothing_written}
use Rattle.plan.specs.Plan.{Plan, plan_from}
use Rattle.plan.specs.Solve.{Ended, no_route}
use Rattle.rrt_run.specs.Run.{after_of, run_of, Runs}

-- the step toward a sample
abbrev pub step_at : Plan → List State → State → Stepped
step_at p states s = step_of p.limits p.segment p.keep_outs p.max states s

module _ (p : Plan) (nodes : Nodes) (taken : ℕ) (s : State) (ss : List State) (e : Stepped) (is : e ≡ step_at p nodes.states s) where
  run_refused : e.accepted ≡ false → run_of p nodes taken (s ∷ ss) ≡ run_of p nodes (taken + 1) ss
  unfolding run_of after_of
  run_refused h = rw (← is, h)

  run_full : e.accepted ≡ true → 512 ≤ length nodes.states → run_of p nodes taken (s ∷ ss) ≡ no_route nodes Full (taken + 1)
  unfolding run_of after_of
  run_full h l = rw (← is, h, le-ltb (length nodes.states) 512 l)

  module _ (h : e.accepted ≡ true) (l : length nodes.states < 512) where
    abbrev grown : Nodes
    grown = grown_of nodes e.at e.parent

    run_goal :
        satisfied_of p.goal e.at ≡ true →
        run_of p nodes taken (s ∷ ss) ≡ record { tables = grown; answer = Done; path = path_of grown (length nodes.states); taken = taken + 1 }
    unfolding run_of after_of
    run_goal g = rw (← is, h, lt-ltb (length nodes.states) 512 l, g)

    run_added : satisfied_of p.goal e.at ≡ false → run_of p nodes taken (s ∷ ss) ≡ run_of p grown (taken + 1) ss
    unfolding run_of after_of
    run_added g = rw (← is, h, lt-ltb (length nodes.states) 512 l, g)

-- A run so far: k samples are taken, in parts of `size` numbers, and the tree is t.
pub record Sofar (mount : Mount) (max : Length) (goal : Goal) (rooted : Tree) (list old : List Float) (size k : ℕ) (rest : List Float) (t : Tree) (out : List Float) : Type 0 where
  pub walked : Walked list size k rest
  pub some : 0 < t.count
  pub room : t.count ≤ 512
  pub kept : out ≡ old
  pub is : run_of (plan_from mount max goal) (nodes_of rooted) 0 (samples_of list) ≡ run_of (plan_from mount max goal) (nodes_of t) k (samples_of rest)

module _ {mount : Mount} {max : Length} {goal : Goal} {rooted : Tree} {list old : List Float} {size k : ℕ} {rest : List Float} {t : Tree} {out : List Float}
    (w : Sofar mount max goal rooted list old size k rest t out) where
  abbrev p : Plan
  p = plan_from mount max goal

  abbrev whole : Ended Nodes
  whole = run_of p (nodes_of rooted) 0 (samples_of list)

  pub run_ends : length rest < size → Runs mount max goal rooted list old (record { answer = SamplesEnded; count = 0; taken = length list / 3 }) t out
  run_ends h =
      record {
        ended = no_route (nodes_of t) SamplesEnded (length list / 3);
        is = sym (w.is ∙ ap (run_of p (nodes_of t) k) (walk_over w.walked h) ∙ over k ∙ ap (no_route (nodes_of t) SamplesEnded) (walk_ends w.walked h));
        nodes = refl;
        answer = refl;
        count = refl;
        taken = refl;
        memory = w.kept ∙ sym (nothing_written old);
        some = w.some;
        room = w.room;
      }
    where
      over : (k : ℕ) → run_of p (nodes_of t) k [] ≡ no_route (nodes_of t) SamplesEnded k
      over k = unfold run_of in refl

  -- The next sample is s, of the numbers x. It is the i-th, and e is the step toward it.
  module _ {i : ℕ} {x : List Float} {size' k' : ℕ} {rest' : List Float} (turn : Turn size k rest i x size' k' rest')
      {s : State} (is-s : s ≡ sample_of x) {e : Stepped} (is-e : e ≡ step_at p (states_of t) s) where
    is-e' : e ≡ step_at p (nodes_of t).states s
    is-e' = rw (states_are t) is-e

    taken_up : whole ≡ run_of p (nodes_of t) k (s ∷ samples_of rest')
    taken_up = w.is ∙ ap (run_of p (nodes_of t) k) (walk_sample w.walked turn ∙ ap (λ (y : State). y ∷ samples_of rest') (sym is-s))

    walked' : Walked list size' k' rest'
    walked' = walk_next w.walked turn

    pub turn_refused : not e.accepted ≡ true → Sofar mount max goal rooted list old size' k' rest' t out
    turn_refused h =
        let no : e.accepted ≡ false = grind arith in
        record {
          walked = walked';
          some = w.some;
          room = w.room;
          kept = w.kept;
          is = taken_up ∙ run_refused p (nodes_of t) k s _ e is-e' no ∙ ap (λ (n : ℕ). run_of p (nodes_of t) n (samples_of rest')) (sym turn.next);
        }

    -- n nodes stand in the tree
    module _ (h : not e.accepted ≡ false) {n : ℕ} (many : n ≡ length (nodes_of t).states) where
      yes : e.accepted ≡ true
      yes = grind arith

      pub turn_full : n ≡ 512 → Runs mount max goal rooted list old (record { answer = Full; count = 0; taken = i + 1 }) t out
      turn_full l =
          record {
            ended = no_route (nodes_of t) Full (i + 1);
            is = sym (taken_up ∙ run_full p (nodes_of t) k s _ e is-e' yes (omega arith) ∙ ap (λ (m : ℕ). no_route (nodes_of t) Full (m + 1)) (sym turn.counts));
            nodes = refl;
            answer = refl;
            count = refl;
            taken = refl;
            memory = w.kept ∙ sym (nothing_written old);
            some = w.some;
            room = w.room;
          }

      module _ (sized : length t.nodes ≡ 512) (l : n ≡ 512 → ⊥) where
        -- the count is below the table's places
        pub low : t.count < 512
        low = omega (arith, many, nodes_length t (omega (arith, sized)), w.room)

        abbrev pushed : Tree
        pushed = pushed_of t e.at e.parent

        grows : nodes_of pushed ≡ grown_of (nodes_of t) e.at e.parent
        grows = push_grows t e.at e.parent (omega (arith, low))

        below : length (nodes_of t).states < 512
        below = omega (arith, low, nodes_length t (omega (arith, sized)))

        more : pushed.count ≡ t.count + 1
        more = unfold pushed_of in refl

        -- what is asked of the way to the new node
        pub way_in : 1536 ≤ length old → (n < pushed.count) × (pushed.count ≤ 512) × (3 * pushed.count ≤ length out)
        way_in h = (omega (arith, many, more, nodes_length t (omega (arith, sized))), omega (arith, low, more), omega (arith, low, more, h, ap length w.kept))

        pub turn_added : {g : Bool} → g ≡ satisfied_of goal e.at → g ≡ false → Sofar mount max goal rooted list old size' k' rest' pushed out
        turn_added sat other =
            record {
              walked = walked';
              some = omega (arith, more);
              room = omega (arith, low, more);
              kept = w.kept;
              is = taken_up ∙ run_added p (nodes_of t) k s _ e is-e' yes below (sym sat ∙ other) ∙ ap (λ (x : Nodes). run_of p x (k + 1) (samples_of rest')) (sym grows)
                  ∙ ap (λ (n : ℕ). run_of p (nodes_of pushed) n (samples_of rest')) (sym turn.next);
            }

        pub turn_found :
            {g : Bool} → g ≡ satisfied_of goal e.at → g ≡ true →
            {count : ℕ} {new : List Float} → Wrote (nodes_of pushed) n out count new →
            Runs mount max goal rooted list old (record { answer = Done; count = count; taken = i + 1 }) pushed new
        turn_found {g} sat found {count} {new} wrote =
            record {
              ended = record { tables = nodes_of pushed; answer = Done; path = path_of (nodes_of pushed) n; taken = i + 1 };
              is = sym
                  (taken_up ∙ run_goal p (nodes_of t) k s _ e is-e' yes below (sym sat ∙ found)
                  ∙ ap (λ (x : Nodes). record { tables = x; answer = Done; path = path_of x (length (nodes_of t).states); taken = k + 1 }) (sym grows)
                  ∙ ap (λ (m : ℕ). record { tables = nodes_of pushed; answer = Done; path = path_of (nodes_of pushed) m; taken = k + 1 }) (sym many)
                  ∙ ap (λ (m : ℕ). record { tables = nodes_of pushed; answer = Done; path = path_of (nodes_of pushed) n; taken = m + 1 }) (sym turn.counts));
              nodes = refl;
              answer = refl;
              count = wrote.count;
              taken = refl;
              memory = wrote.memory ∙ ap (written_of (path_of (nodes_of pushed) n)) w.kept;
              some = omega (arith, more);
              room = omega (arith, low, more);
            }
