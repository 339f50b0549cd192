-- What one turn of pruning does to its definition, over the tables that the code has. `gone` and `hit` are any tests.
use Prim.Native.Nat.{ℕ, zero, suc, ◌+◌, ◌-◌, ◌<◌, ◌≤◌}
use mathlib.Core.Bool.{Bool, true, false, not, ◌&&◌, cond}
use mathlib.Core.List.{List, [], ◌∷◌, ◌++◌, map}
use mathlib.Core.Path.{◌≡◌, refl, sym, ◌∙◌, ap, ap₂}
use native.Mathlib.Omega.{arith}
use native.Mathlib.Numerals.{add-one}
use lib.ListN.{length, get_or}
use Rattle.laws.specs.Order.{whether}
use Rattle.state.specs.declared.State.{State}
use Rattle.roadmap.specs.Keep.{keep_of}
use Rattle.roadmap.specs.Map.{Milestone, add_of}
use Rattle.roadmap.specs.View.{span_of}
use Rattle.roadmap.proofs.Span.{span_snoc}
use Rattle.prune.specs.Prune.{left_of, leaves_of}
use Rattle.prune.specs.Numbers.{itself}

none : (i : ℕ) → suc i ≤ 0 → ⊥
none i h = omega arith

shift : {A : Type 0} (i n : ℕ) (f : ℕ → A) → span_of (i + 1) n f ≡ span_of i n (λ (j : ℕ). f (suc j))
unfolding span_of
shift i zero f = refl
shift i (suc n) f = rw (shift (i + 1) n f, add-one i)

-- a list by its numbers
by_numbers : {A : Type 0} (f : ℕ → A) (l : List ℕ) → map f l ≡ span_of 0 (length l) (λ (j : ℕ). f (get_or l j 0))
unfolding span_of
by_numbers f [] = refl
by_numbers f (x ∷ xs) = rw (shift 0 (length xs) (λ (j : ℕ). f (get_or (x ∷ xs) j 0)), by_numbers f xs)

module _ (gone : State → Bool) (hit : State → State → Bool) (st : ℕ → State) where
  abbrev pub stands : ℕ → Bool
  stands o = not (gone (st o))

  abbrev still : State → (ℕ → Bool) → ℕ → Bool
  still s lg o = lg o && not (hit s (st o))

  left_span : (s : State) (lg : ℕ → Bool) (b i n : ℕ) → i ≤ n → left_of gone hit s (span_of b i st) (span_of b n lg) ≡ map (still s lg) (keep_of stands (span_of b i itself))
  unfolding left_of keep_of span_of
  left_span s lg b zero n h = refl
  left_span s lg b (suc i) zero h = absurd (none i h)
  left_span s lg b (suc i) (suc n) h =
      let later = left_span s lg (b + 1) i n (omega arith) in
      whether (gone (st b)) (λ e. rw (e, later)) (λ e. rw (e, later))

  -- what stays of the legs of a milestone that stays
  pub left_kept :
      (s : State) (lg : ℕ → Bool) (i n : ℕ) → i ≤ n →
      (let old = keep_of stands (span_of 0 i itself) in
      left_of gone hit s (span_of 0 i st) (span_of 0 n lg) ≡ span_of 0 (length old) (λ (j : ℕ). lg (get_or old j 0) && not (hit s (st (get_or old j 0)))))
  left_kept s lg i n h = left_span s lg 0 i n h ∙ by_numbers (still s lg) (keep_of stands (span_of 0 i itself))

  before_snoc : (i : ℕ) → span_of 0 (i + 1) st ≡ span_of 0 i st ++ (st i ∷ [])
  before_snoc i = let e : 0 + i ≡ i = omega arith in rw (add-one i) (span_snoc 0 i st ∙ ap (λ (j : ℕ). span_of 0 i st ++ (st j ∷ [])) e)

  module _ (lg : ℕ → ℕ → Bool) (n : ℕ) where
    abbrev row : ℕ → Milestone
    row i = record { at = st i; legs = span_of 0 n (lg i) }

    -- what is left of the walk at the i-th milestone
    abbrev pub leaves_at : List Milestone → ℕ → List Milestone
    leaves_at kept i = leaves_of gone hit kept (span_of 0 i st) (span_of i (n - i) row)

    rest_more : (i : ℕ) → i < n → span_of i (n - i) row ≡ row i ∷ span_of (i + 1) (n - (i + 1)) row
    unfolding span_of
    rest_more i h = let k : n - i ≡ suc (n - (i + 1)) = omega arith in rw k

    abbrev added : List Milestone → ℕ → List Milestone
    added kept i = add_of kept (st i) (left_of gone hit (st i) (span_of 0 i st) (span_of 0 n (lg i)))

    met : (kept kept' : List Milestone) (i : ℕ) → i < n → cond (gone (st i)) kept (added kept i) ≡ kept' → leaves_at kept i ≡ leaves_at kept' (i + 1)
    unfolding leaves_of
    met kept kept' i h e =
        ap (leaves_of gone hit kept (span_of 0 i st)) (rest_more i h)
        ∙ ap₂ (λ (ms : List Milestone) (bs : List State). leaves_of gone hit ms bs (span_of (i + 1) (n - (i + 1)) row)) e (sym (before_snoc i))

    pub turn_gone : (kept : List Milestone) (i : ℕ) → i < n → gone (st i) ≡ true → leaves_at kept i ≡ leaves_at kept (i + 1)
    turn_gone kept i h e = met kept kept i h (rw e)

    pub turn_kept : (kept : List Milestone) (i : ℕ) → i < n → gone (st i) ≡ false → leaves_at kept i ≡ leaves_at (added kept i) (i + 1)
    turn_kept kept i h e = met kept (added kept i) i h (rw e)

    pub turn_end : (kept : List Milestone) (i : ℕ) → n ≤ i → leaves_at kept i ≡ kept
    unfolding leaves_of span_of
    turn_end kept i h = let k : n - i ≡ 0 = omega arith in rw k
