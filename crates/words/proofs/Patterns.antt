-- Reading hexadecimal digits one after the other.
use Prim.Native.Nat.{ℕ, ◌+◌, ◌*◌, ◌^◌, ◌<◌}
use mathlib.Core.List.{List, [], ◌∷◌}
use mathlib.Core.Path.{◌≡◌, refl, sym, ap, ◌∙◌}
use native.Mathlib.Nat.{pow-suc}
use native.Mathlib.Numerals.{add-one}
use native.Mathlib.Omega.{arith}
use borrow.Author.Tests.{eq-eqb}
use lib.Ieee.{Float, binary64, of_bits}
use lib.ListN.{length, drop, get_or}
use Rattle.std.specs.Prelude.{Option, Some, None}
use Rattle.numeral.specs.Hex.{hex_of}
use Rattle.words.specs.Number.{bits_on, bits_from, hex_word}
use Rattle.std.proofs.lemmas.List.{drop_more, drop_all}

on_some : (v d : ℕ) (later : ℕ → Option Float) → bits_on v (Some d) later ≡ later (v * 16 + d)
unfolding bits_on
on_some v d later = refl

on_none : (v : ℕ) (later : ℕ → Option Float) → bits_on v None later ≡ None
unfolding bits_on
on_none v later = refl

from_digit : (v b d : ℕ) (bs : List ℕ) → hex_of b ≡ Some d → bits_from v (b ∷ bs) ≡ bits_from (v * 16 + d) bs
unfolding bits_from
from_digit v b d bs e = rw e (on_some v d (λ n. bits_from n bs))

from_other : (v b : ℕ) (bs : List ℕ) → hex_of b ≡ None → bits_from v (b ∷ bs) ≡ None
unfolding bits_from
from_other v b bs e = rw e (on_none v (λ n. bits_from n bs))

from_none : (v : ℕ) → bits_from v [] ≡ Some (of_bits binary64 v)
unfolding bits_from
from_none v = refl

module _ (digits : List ℕ) where
  pub sixteen : length digits ≡ 16 → hex_word digits ≡ bits_from 0 digits
  unfolding hex_word
  sixteen h = rw (eq-eqb (length digits) 16 h)

  -- what is left at a place i
  module _ (v i : ℕ) (l : hex_word digits ≡ bits_from v (drop i digits)) where
    pub left_digit : (d : ℕ) → i < length digits → hex_of (get_or digits i 0) ≡ Some d → hex_word digits ≡ bits_from (v * 16 + d) (drop (i + 1) digits)
    left_digit d h e = l ∙ ap (bits_from v) (drop_more digits i 0 h) ∙ from_digit v (get_or digits i 0) d (drop (i + 1) digits) e

    pub left_bad : i < length digits → hex_of (get_or digits i 0) ≡ None → None ≡ hex_word digits
    left_bad h e = sym (l ∙ ap (bits_from v) (drop_more digits i 0 h) ∙ from_other v (get_or digits i 0) (drop (i + 1) digits) e)

    pub left_value : i ≡ length digits → Some (of_bits binary64 v) ≡ hex_word digits
    left_value h = sym (l ∙ ap (bits_from v) (drop_all i digits (omega arith)) ∙ from_none v)

pub grown : (v d i : ℕ) → v < 16 ^ i → d < 16 → v * 16 + d < 16 ^ (i + 1)
grown v d i s k = rw (add-one, pow-suc) (omega arith)
