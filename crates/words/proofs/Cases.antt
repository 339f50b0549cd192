-- Which case of the definitions of numbers a text is in.
use Prim.Native.Nat.{ℕ, ◌+◌, ◌≤◌, ◌<◌}
use mathlib.Core.Bool.{Bool}
use mathlib.Core.List.{List, [], ◌∷◌}
use mathlib.Core.Path.{◌≡◌, refl}
use native.Mathlib.Omega.{arith}
use lib.ListN.{length}
use Rattle.std.specs.Prelude.{Some, None}
use Rattle.std.proofs.lemmas.Bool.Decides.{nat_tests}
use Rattle.words.specs.Digits.{lead, after, read_on}
use Rattle.words.specs.Number.{limited_of, made_of, part_of, plain_of, whole_in}

-- ---- digits before the point and behind it
module _ (negative : Bool) where
  too_long : (ds fs : List ℕ) → 15 < length ds + length fs → None ≡ made_of negative ds fs
  unfolding limited_of made_of
  too_long ds fs h = grind (arith, nat_tests)

  module _ (ds : List ℕ) where
    pub part_none : (rest : List ℕ) → None ≡ part_of negative ds [] rest
    unfolding part_of
    part_none rest = refl

    pub part_end : (fs : List ℕ) → 0 < length fs → part_of negative ds fs [] ≡ made_of negative ds fs
    unfolding part_of
    part_end [] h = absurd (omega arith)
    part_end (f ∷ fs) h = refl

    pub part_other : (fs : List ℕ) (b : ℕ) (bs : List ℕ) → None ≡ part_of negative ds fs (b ∷ bs)
    unfolding part_of
    part_other [] b bs = refl
    part_other (f ∷ fs) b bs = refl

    pub part_long : (fs rest : List ℕ) → 15 < length ds + length fs → None ≡ part_of negative ds fs rest
    unfolding part_of
    part_long [] rest h = refl
    part_long (f ∷ fs) [] h = too_long ds (f ∷ fs) h
    part_long (f ∷ fs) (b ∷ bs) h = refl

  pub plain_none : (rest : List ℕ) → None ≡ plain_of negative [] rest
  unfolding plain_of
  plain_none rest = refl

  pub plain_end : (ds : List ℕ) → 0 < length ds → plain_of negative ds [] ≡ made_of negative ds []
  unfolding plain_of
  plain_end [] h = absurd (omega arith)
  plain_end (d ∷ ds) h = refl

  pub plain_point : (ds bs : List ℕ) → 0 < length ds → plain_of negative ds (46 ∷ bs) ≡ part_of negative ds (lead bs) (after bs)
  unfolding plain_of
  plain_point [] bs h = absurd (omega arith)
  plain_point (d ∷ ds) bs h = refl

  pub plain_other : (ds : List ℕ) (b : ℕ) (bs : List ℕ) → (b ≡ 46 → ⊥) → None ≡ plain_of negative ds (b ∷ bs)
  unfolding plain_of
  plain_other [] b bs e = refl
  plain_other (d ∷ ds) b bs e = grind (arith, nat_tests)

  pub plain_long : (ds rest : List ℕ) → 15 < length ds → None ≡ plain_of negative ds rest
  unfolding plain_of
  plain_long [] rest h = refl
  plain_long (d ∷ ds) [] h = too_long (d ∷ ds) [] (omega arith)
  plain_long (d ∷ ds) (b ∷ bs) h = let e = part_long (d ∷ ds) (lead bs) (after bs) (omega arith) in grind (arith, nat_tests)

-- ---- digits alone
pub whole_none : (rest : List ℕ) → None ≡ whole_in [] rest
unfolding whole_in
whole_none rest = refl

pub whole_end : (ds : List ℕ) → 0 < length ds → length ds ≤ 15 → whole_in ds [] ≡ Some (read_on 0 ds)
unfolding whole_in
whole_end [] h k = absurd (omega arith)
whole_end (d ∷ ds) h k = grind (arith, nat_tests)

pub whole_other : (ds : List ℕ) (b : ℕ) (bs : List ℕ) → None ≡ whole_in ds (b ∷ bs)
unfolding whole_in
whole_other [] b bs = refl
whole_other (d ∷ ds) b bs = refl

pub whole_long : (ds rest : List ℕ) → 15 < length ds → None ≡ whole_in ds rest
unfolding whole_in
whole_long [] rest h = refl
whole_long (d ∷ ds) [] h = grind (arith, nat_tests)
whole_long (d ∷ ds) (b ∷ bs) h = refl
