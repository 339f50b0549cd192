-- The former numbers of those that stay, and the table of the new ones, as a milestone goes and as one stays.
use Prim.Native.Nat.{ℕ, zero, suc, ◌+◌, ◌<◌, ◌≤◌}
use mathlib.Core.Bool.{Bool, true, false, not}
use mathlib.Core.List.{List, [], ◌∷◌, ◌++◌, append-nil}
use mathlib.Core.Path.{◌≡◌, refl, sym, ◌∙◌, ap}
use native.Mathlib.Omega.{arith}
use native.Mathlib.Numerals.{add-one}
use native.Mathlib.Decide.{ℕ_discrete, dec_lt}
use lib.ListN.{length, get_or, set, replicate, length-append, get_or-append}
use lib.Seq.{get_or-set_same, get_or-set_other, get_or_at}
use Rattle.std.specs.Prelude.{Option, Some, None}
use Rattle.state.specs.Rows.{state_at}
use Rattle.state.specs.declared.State.{State}
use Rattle.keep_out.specs.Covers.{covers_of}
use Rattle.keep_out.specs.declared.KeepOut.{KeepOut}
use Rattle.roadmap.specs.Keep.{keep_of}
use Rattle.roadmap.specs.View.{span_of}
use Rattle.roadmap.proofs.Span.{span_snoc, span_long}
use Rattle.prune.specs.Numbers.{itself, stayed_of, Numbers}
use Rattle.prune.proofs.Keep.{keep_append, fewer}

number_snoc : (i : ℕ) → span_of 0 (i + 1) itself ≡ span_of 0 i itself ++ (i ∷ [])
number_snoc i = let e : 0 + i ≡ i = omega arith in rw (add-one i) (span_snoc 0 i itself ∙ ap (λ (j : ℕ). span_of 0 i itself ++ (j ∷ [])) e)

module _ (k : KeepOut) (states : List State) (i : ℕ) where
  abbrev stays : ℕ → Bool
  stays o = not (covers_of k (state_at states o))

  pub stayed_gone : covers_of k (state_at states i) ≡ true → stayed_of k states (i + 1) ≡ stayed_of k states i
  unfolding stayed_of keep_of
  stayed_gone e = rw (number_snoc i, keep_append stays (span_of 0 i itself) (i ∷ []), e) (append-nil (keep_of stays (span_of 0 i itself)))

  pub stayed_more : covers_of k (state_at states i) ≡ false → stayed_of k states (i + 1) ≡ stayed_of k states i ++ (i ∷ [])
  unfolding stayed_of keep_of
  stayed_more e = rw (number_snoc i, keep_append stays (span_of 0 i itself) (i ∷ []), e)

  pub stayed_few : length (stayed_of k states i) ≤ i
  unfolding stayed_of
  stayed_few = omega (arith, fewer stays (span_of 0 i itself), span_long 0 i itself)

none : (o x : ℕ) → ◌≡◌ {A = Option ℕ} (get_or (replicate x None) o None) None
none o zero = refl
none zero (suc x) = refl
none (suc o) (suc x) = none o x

pub numbers_none : (x : ℕ) → Numbers [] (replicate x None) 0
numbers_none x =
    record {
      below = λ j h. absurd (over j h);
      back = λ j h. absurd (over j h);
      there = λ o j e. let z : None ≡ Some j = sym (none o x) ∙ e in cc;
    }
  where
    over : (j : ℕ) → j < 0 → ⊥
    over j h = omega arith

module _ {old : List ℕ} {at : List (Option ℕ)} {i : ℕ} (w : Numbers old at i) where
  pub numbers_gone : Numbers old at (i + 1)
  numbers_gone = record { below = λ j h. omega (arith, w.below j h); back = w.back; there = w.there }

  pub numbers_kept : {n : ℕ} → n ≡ length old → i < length at → Numbers (old ++ (i ∷ [])) (set at i (Some n)) (i + 1)
  numbers_kept {n} many room =
      record {
        below = λ j h. elim (dec_lt j (length old)) [ yes l ↦ rw (before j l) (omega (arith, w.below j l)) | no l ↦ rw (last j (end j h l)) (omega arith) ];
        back = λ j h. elim (dec_lt j (length old)) [
          | yes l ↦ rw (before j l) (get_or-set_other at i (get_or old j 0) (Some n) None (λ z. omega (arith, w.below j l)) ∙ w.back j l)
          | no l ↦ rw (last j (end j h l)) (get_or-set_same at i (Some n) None room ∙ ap Some (many ∙ sym (end j h l)))
        ];
        there = λ o j e. elim (ℕ_discrete o i) [
          | yes q ↦
              (let z : Some n ≡ Some j = sym (get_or-set_same at i (Some n) None room) ∙ ap (λ (x : ℕ). get_or (set at i (Some n)) x None) (sym q) ∙ e in
              let y : j ≡ length old = cc in
              (omega (arith, long), last j y ∙ sym q))
          | no q ↦
              (let z = w.there o j (sym (get_or-set_other at i o (Some n) None q) ∙ e) in
              (omega (arith, long, z.0), before j z.0 ∙ z.1))
        ];
      }
    where
      long : length (old ++ (i ∷ [])) ≡ length old + 1
      long = length-append old (i ∷ [])

      before : (j : ℕ) → j < length old → get_or (old ++ (i ∷ [])) j 0 ≡ get_or old j 0
      before j l = get_or-append old (i ∷ []) 0 j l

      last : (j : ℕ) → j ≡ length old → get_or (old ++ (i ∷ [])) j 0 ≡ i
      last j e = get_or_at old i [] 0 j (sym e)

      end : (j : ℕ) → j < length (old ++ (i ∷ [])) → (j < length old → ⊥) → j ≡ length old
      end j h l = omega (arith, long)
