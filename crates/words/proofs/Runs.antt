-- Reading digits one after the other: what is left at a place of the text says the same of it as the whole.
use Prim.Native.Nat.{ℕ, suc, ◌+◌, ◌-◌, ◌*◌, ◌^◌, ◌≤◌, ◌<◌}
use mathlib.Core.Bool.{true, false}
use mathlib.Core.List.{List, [], ◌∷◌}
use mathlib.Core.Logic.{inl, inr}
use mathlib.Core.Path.{◌≡◌, refl, sym, ap, ◌∙◌}
use native.Mathlib.Nat.{pow-suc, pow-le-pow_right, lt_of_not-le}
use native.Mathlib.Omega.{arith}
use lib.Dec.{lit<}
use lib.ListN.{length, drop, get_or}
use Rattle.std.specs.Char.{is_ascii_digit}
use Rattle.std.proofs.lemmas.Bool.Decides.{nat_tests}
use Rattle.words.specs.Digits.{lead, after, read_on}
use Rattle.words.specs.Runs.{Ended, Long, Reads}
use Rattle.std.proofs.lemmas.List.{drop_more, drop_all}

-- ---- one byte of a text
at_most_57 : (b : ℕ) → is_ascii_digit b ≡ true → b ≤ 57
at_most_57 b e = grind (arith, nat_tests)

module _ (b : ℕ) (bs : List ℕ) where
  lead_digit : is_ascii_digit b ≡ true → lead (b ∷ bs) ≡ b ∷ lead bs
  unfolding lead
  lead_digit e = rw e

  lead_other : is_ascii_digit b ≡ false → lead (b ∷ bs) ≡ []
  unfolding lead
  lead_other e = rw e

  after_digit : is_ascii_digit b ≡ true → after (b ∷ bs) ≡ after bs
  unfolding after
  after_digit e = rw e

  after_other : is_ascii_digit b ≡ false → after (b ∷ bs) ≡ b ∷ bs
  unfolding after
  after_other e = rw e

  read_on_digit : (v : ℕ) → read_on v (b ∷ bs) ≡ read_on (v * 10 + (b - 48)) bs
  unfolding read_on
  read_on_digit v = refl

read_none : (v : ℕ) → read_on v [] ≡ v
unfolding read_on
read_none v = refl

lead_none : lead [] ≡ []
unfolding lead
lead_none = refl

after_none : after [] ≡ []
unfolding after
after_none = refl

-- a number of 15 digits or more has them
above : (v n : ℕ) → 10 ^ 14 ≤ v → v < 10 ^ n → 14 < n
above v n h k = lt_of_not-le (λ (s : n ≤ 14). let m : 10 ^ n ≤ 10 ^ 14 = pow-le-pow_right {n = 10} (lit< tt) s in omega arith)

-- ---- what is left at a place i
pub record Left (text : List ℕ) (before value i : ℕ) : Type 0 where
  pub value_left : read_on before (lead text) ≡ read_on value (lead (drop i text))
  pub rest_left : after text ≡ after (drop i text)
  pub count_left : length (lead text) ≡ i + length (lead (drop i text))
  pub size : (k : ℕ) → before < 10 ^ k → value < 10 ^ (k + i)

pub left_all : (text : List ℕ) (before : ℕ) → Left text before before 0
left_all text before = record { value_left = refl; rest_left = refl; count_left = omega arith; size = λ k h. let e : k + 0 ≡ k = omega arith in rw e h }

module _ (text : List ℕ) (before value i : ℕ) (l : Left text before value i) where
  module _ (h : i < length text) where
    -- a digit more
    module _ (e : is_ascii_digit (get_or text i 0) ≡ true) where
      lead_here : lead (drop i text) ≡ get_or text i 0 ∷ lead (drop (i + 1) text)
      lead_here = ap lead (drop_more text i 0 h) ∙ lead_digit (get_or text i 0) (drop (i + 1) text) e

      count_here : length (lead (drop i text)) ≡ suc (length (lead (drop (i + 1) text)))
      count_here = ap length lead_here

      pub left_less : Left text before (value * 10 + (get_or text i 0 - 48)) (i + 1)
      left_less =
          record {
            value_left = l.value_left ∙ (ap (read_on value) lead_here ∙ read_on_digit (get_or text i 0) (lead (drop (i + 1) text)) value);
            rest_left = l.rest_left ∙ (ap after (drop_more text i 0 h) ∙ after_digit (get_or text i 0) (drop (i + 1) text) e);
            count_left = omega (arith, l.count_left, count_here);
            size = λ n b. let q : n + (i + 1) ≡ suc (n + i) = omega arith in let s : value < 10 ^ (n + i) = l.size n b in let d : get_or text i 0 ≤ 57 = at_most_57 _ e in rw (q, pow-suc) (omega arith);
          }

      left_long : 10 ^ 14 ≤ value → Long text before i
      left_long v =
          record {
            inside = h;
            digit = e;
            many = λ k b. let m : 14 < k + i = above value (k + i) v (l.size k b) in omega (arith, l.count_left, count_here);
          }

  whole : lead (drop i text) ≡ [] → after (drop i text) ≡ drop i text → Ended text before value i
  whole p q =
      record {
        value_is = l.value_left ∙ (ap (read_on value) p ∙ read_none value);
        rest_is = l.rest_left ∙ q;
        count_is = let n : length (lead (drop i text)) ≡ 0 = ap length p in omega (arith, l.count_left);
      }

  left_other : i < length text → is_ascii_digit (get_or text i 0) ≡ false → Ended text before value i
  left_other h e =
      whole (ap lead (drop_more text i 0 h) ∙ lead_other (get_or text i 0) (drop (i + 1) text) e)
      (ap after (drop_more text i 0 h) ∙ (after_other (get_or text i 0) (drop (i + 1) text) e ∙ sym (drop_more text i 0 h)))

  left_none : i ≡ length text → Ended text before value i
  left_none h =
      let e : drop i text ≡ [] = drop_all i text (omega arith) in
      whole (ap lead e ∙ lead_none) (ap after e ∙ (after_none ∙ sym e))

  -- ---- where the reading stops
  pub at_end : i ≡ length text → Reads text before value i
  at_end h = record { within = omega arith; size = l.size; run = inl (left_none h) }

  module _ (h : i < length text) where
    pub at_other : is_ascii_digit (get_or text i 0) ≡ false → Reads text before value i
    at_other e = record { within = omega arith; size = l.size; run = inl (left_other h e) }

    pub at_digit : is_ascii_digit (get_or text i 0) ≡ true → 10 ^ 14 ≤ value → Reads text before value i
    at_digit e v = record { within = omega arith; size = l.size; run = inr (left_long h e v) }
