-- What a run of digits, and a second one behind a point, say of a text as a numeral.
use Prim.Native.Nat.{ℕ, ◌+◌, ◌^◌, ◌≤◌, ◌<◌}
use mathlib.Core.Bool.{Bool, true}
use mathlib.Core.List.{List, [], ◌∷◌}
use mathlib.Core.Logic.{⊎_elim}
use mathlib.Core.Path.{◌≡◌, refl, sym, ap, ◌∙◌, subst}
use native.Mathlib.Nat.{add-zero}
use native.Mathlib.Omega.{arith}
use lib.Dec.{T, lit<}
use lib.Ieee.{Float}
use lib.ListN.{length, drop, get_or}
use Rattle.std.specs.Char.{is_ascii_digit}
use Rattle.std.specs.Prelude.{Option, Some, None}
use Rattle.std.proofs.lemmas.List.{get_or-drop, length-drop}
use Rattle.words.specs.Digits.{lead, after, read_on}
use Rattle.words.specs.Number.{limited_of, made_of, part_of, plain_of, whole_of}
use Rattle.words.specs.Runs.{Ended, Long, Reads}
use Rattle.words.proofs.Cases.{part_none, part_end, part_other, part_long, plain_none, plain_end, plain_point, plain_other, plain_long, whole_none, whole_end, whole_other, whole_long}

nil : (l : List ℕ) → length l ≡ 0 → l ≡ []
nil [] h = refl
nil (x ∷ l) h = absurd (omega arith)

starts : (l : List ℕ) → 0 < length l → l ≡ get_or l 0 0 ∷ drop 1 l
starts [] h = absurd (omega arith)
starts (x ∷ l) h = refl

made_is : (negative : Bool) (ds fs : List ℕ) (v n p : ℕ) → read_on (read_on 0 ds) fs ≡ v → length ds + length fs ≡ n → length fs ≡ p →
    made_of negative ds fs ≡ limited_of negative v n p
unfolding made_of
made_is negative ds fs v n p e f g = rw (e, f, g)

read_none : (v : ℕ) → read_on v [] ≡ v
unfolding read_on
read_none v = refl

-- ---- the digits at the front, and what follows them
module _ (text : List ℕ) (value count : ℕ) (run : Reads text 0 value count) (rest : List ℕ) (r : rest ≡ drop count text) where
  -- all are read, where no digit follows
  all : (0 < length rest → is_ascii_digit (get_or rest 0 0) ≡ true → ⊥) → Ended text 0 value count
  all none =
      ⊎_elim (λ (o : Ended text 0 value count). o)
      (λ (o : Long text 0 count).
      let e : get_or (drop count text) 0 0 ≡ get_or text count 0 = simp (get_or-drop, add-zero) in
      absurd (none (rw r (omega (arith, o.inside, length-drop count text))) (rw (r, e) o.digit)))
      run.run

  module _ (negative : Bool) where
    long : Long text 0 count → None ≡ plain_of negative (lead text) (after text)
    long o = let m : 15 < 0 + length (lead text) = o.many 0 (lit< tt) in plain_long negative (lead text) (after text) (omega arith)

    pub no_digit : count ≡ 0 → None ≡ plain_of negative (lead text) (after text)
    no_digit h =
        ⊎_elim
        (λ (o : Ended text 0 value count).
        let e : lead text ≡ [] = nil (lead text) (o.count_is ∙ h) in
        rw e (plain_none negative (after text)))
        long
        run.run

    pub no_point : 0 < length rest → (get_or rest 0 0 ≡ 46 → ⊥) → None ≡ plain_of negative (lead text) (after text)
    no_point h n =
        ⊎_elim
        (λ (o : Ended text 0 value count).
        let e : after text ≡ get_or rest 0 0 ∷ drop 1 rest = o.rest_is ∙ sym r ∙ starts rest h in
        rw e (plain_other negative (lead text) (get_or rest 0 0) (drop 1 rest) n))
        long
        run.run

    pub alone : length rest ≡ 0 → (count ≡ 0 → ⊥) → (m : Option Float) → m ≡ limited_of negative value count 0 → m ≡ plain_of negative (lead text) (after text)
    alone h some m g =
        let o = all (λ k d. omega arith) in
        let e : after text ≡ [] = o.rest_is ∙ sym r ∙ nil rest h in
        let n : length (lead text) + 0 ≡ count = omega (arith, o.count_is) in
        let v : read_on (read_on 0 (lead text)) [] ≡ value = read_none (read_on 0 (lead text)) ∙ o.value_is in
        rw e (g ∙ sym (plain_end negative (lead text) (omega (arith, o.count_is)) ∙ made_is negative (lead text) [] value count 0 v n refl))

    -- ---- a point behind them
    module _ (some : count ≡ 0 → ⊥) (h : 0 < length rest) (dot : get_or rest 0 0 ≡ 46) (places : List ℕ) (p : places ≡ drop 1 rest) where
      ended : Ended text 0 value count
      ended = all (λ k d. let z : is_ascii_digit 46 ≡ true = subst (λ (b : ℕ). is_ascii_digit b ≡ true) dot d in subst T (sym z) tt)

      behind : plain_of negative (lead text) (after text) ≡ part_of negative (lead text) (lead places) (after places)
      behind =
          let e : after text ≡ 46 ∷ places = ended.rest_is ∙ sym r ∙ starts rest h ∙ ap (λ (b : ℕ). b ∷ drop 1 rest) dot ∙ ap (λ (l : List ℕ). 46 ∷ l) (sym p) in
          rw e (plain_point negative (lead text) places (omega (arith, ended.count_is)))

      module _ (value' count' : ℕ) (run' : Reads places value value' count') (rest' : List ℕ) (r' : rest' ≡ drop count' places) where
        long' : Long places value count' → None ≡ plain_of negative (lead text) (after text)
        long' o =
            let s : value < 10 ^ (0 + count) = run.size 0 (lit< tt) in
            let m : 15 < 0 + count + length (lead places) = o.many (0 + count) s in
            rw behind (part_long negative (lead text) (lead places) (after places) (omega (arith, ended.count_is)))

        pub no_digit_behind : count' ≡ 0 → None ≡ plain_of negative (lead text) (after text)
        no_digit_behind k =
            ⊎_elim
            (λ (o : Ended places value value' count').
            let e : lead places ≡ [] = nil (lead places) (o.count_is ∙ k) in
            rw (behind, e) (part_none negative (lead text) (after places)))
            long'
            run'.run

        pub more_behind : (length rest' ≡ 0 → ⊥) → None ≡ plain_of negative (lead text) (after text)
        more_behind k =
            ⊎_elim
            (λ (o : Ended places value value' count').
            let e : after places ≡ get_or rest' 0 0 ∷ drop 1 rest' = o.rest_is ∙ sym r' ∙ starts rest' (omega arith) in
            rw (behind, e) (part_other negative (lead text) (lead places) (get_or rest' 0 0) (drop 1 rest')))
            long'
            run'.run

        pub with_part : (count' ≡ 0 → ⊥) → length rest' ≡ 0 → (m : Option Float) → m ≡ limited_of negative value' (count + count') count' →
            m ≡ plain_of negative (lead text) (after text)
        with_part k l m g =
            ⊎_elim
            (λ (o : Ended places value value' count').
            let e : after places ≡ [] = o.rest_is ∙ sym r' ∙ nil rest' l in
            let n : length (lead text) + length (lead places) ≡ count + count' = omega (arith, o.count_is, ended.count_is) in
            let v : read_on (read_on 0 (lead text)) (lead places) ≡ value' = ap (λ (x : ℕ). read_on x (lead places)) ended.value_is ∙ o.value_is in
            rw (behind, e)
            (g ∙ sym (part_end negative (lead text) (lead places) (omega (arith, o.count_is))
            ∙ made_is negative (lead text) (lead places) value' (count + count') count' v n o.count_is)))
            (λ (o : Long places value count').
            let q : length (drop count' places) ≡ 0 = rw (← r') l in
            absurd (omega (arith, o.inside, length-drop count' places)))
            run'.run

  -- ---- digits alone
  long_whole : 15 < length (lead text) → None ≡ whole_of text
  unfolding whole_of
  long_whole h = whole_long (lead text) (after text) h

  many : Long text 0 count → None ≡ whole_of text
  many o = let m : 15 < 0 + length (lead text) = o.many 0 (lit< tt) in long_whole (omega arith)

  pub no_whole_digit : count ≡ 0 → None ≡ whole_of text
  unfolding whole_of
  no_whole_digit h =
      ⊎_elim
      (λ (o : Ended text 0 value count).
      let e : lead text ≡ [] = nil (lead text) (o.count_is ∙ h) in
      rw e (whole_none (after text)))
      many
      run.run

  pub more_than_digits : (length rest ≡ 0 → ⊥) → None ≡ whole_of text
  unfolding whole_of
  more_than_digits h =
      ⊎_elim
      (λ (o : Ended text 0 value count).
      let e : after text ≡ get_or rest 0 0 ∷ drop 1 rest = o.rest_is ∙ sym r ∙ starts rest (omega arith) in
      rw e (whole_other (lead text) (get_or rest 0 0) (drop 1 rest)))
      many
      run.run

  pub too_many_digits : 15 < count → None ≡ whole_of text
  too_many_digits h = ⊎_elim (λ (o : Ended text 0 value count). long_whole (omega (arith, o.count_is))) many run.run

  pub whole_value : 0 < count → length rest ≡ 0 → count ≤ 15 → Some value ≡ whole_of text
  unfolding whole_of
  whole_value h k l =
      let o = all (λ j d. omega arith) in
      let e : after text ≡ [] = o.rest_is ∙ sym r ∙ nil rest k in
      rw e (sym (whole_end (lead text) (omega (arith, o.count_is)) (omega (arith, o.count_is)) ∙ ap Some o.value_is))
