-- Laws of a table read from the front.
use Prim.Native.Nat.{ℕ, zero, suc, ◌+◌, ◌<◌, ◌≤◌}
use mathlib.Core.Bool.{Bool}
use mathlib.Core.List.{List, [], ◌∷◌, ◌++◌, map}
use mathlib.Core.Path.{◌≡◌, refl, ◌∙◌, ap, ap₂}
use native.Mathlib.Omega.{arith}
use lib.ListN.{length, get_or, get_or-eq_default}
use Rattle.state.specs.declared.State.{State}
use Rattle.roadmap.specs.Map.{Milestone, mark_of}
use Rattle.roadmap.specs.View.{span_of}

none : (p : ℕ) → p < 0 → ⊥
none p h = omega arith

module _ {A : Type 0} where
  pub span_snoc : (i n : ℕ) (f : ℕ → A) → span_of i (suc n) f ≡ span_of i n f ++ (f (i + n) ∷ [])
  unfolding span_of
  span_snoc i zero f = let e : i + 0 ≡ i = omega arith in rw e
  span_snoc i (suc n) f =
      let e : i + 1 + n ≡ i + suc n = omega arith in
      ap (λ (l : List A). f i ∷ l) (span_snoc (i + 1) n f ∙ ap (λ (j : ℕ). span_of (i + 1) n f ++ (f j ∷ [])) e)

  pub span_same : (i n : ℕ) (f g : ℕ → A) → ((j : ℕ) → i ≤ j → j < i + n → f j ≡ g j) → span_of i n f ≡ span_of i n g
  unfolding span_of
  span_same i zero f g h = refl
  span_same i (suc n) f g h = ap₂ (λ (x : A) (l : List A). x ∷ l) (h i (omega arith) (omega arith)) (span_same (i + 1) n f g (λ j a b. h j (omega arith) (omega arith)))

  pub span_long : (i n : ℕ) (f : ℕ → A) → length (span_of i n f) ≡ n
  unfolding span_of
  span_long i zero f = refl
  span_long i (suc n) f = ap suc (span_long (i + 1) n f)

  pub span_get : (i n : ℕ) (f : ℕ → A) (p : ℕ) (d : A) → p < n → get_or (span_of i n f) p d ≡ f (i + p)
  unfolding span_of
  span_get i zero f p d h = absurd (none p h)
  span_get i (suc n) f zero d h = let e : i + 0 ≡ i = omega arith in rw e
  span_get i (suc n) f (suc p) d h =
      let e : i + 1 + p ≡ i + suc p = omega arith in
      span_get (i + 1) n f p d (omega arith) ∙ ap f e

  pub span_over : (i n : ℕ) (f : ℕ → A) (p : ℕ) (d : A) → n ≤ p → get_or (span_of i n f) p d ≡ d
  span_over i n f p d h = get_or-eq_default (span_of i n f) d (omega (arith, span_long i n f))

module _ {A B : Type 0} where
  pub span_map : (i n : ℕ) (f : ℕ → A) (g : A → B) → map g (span_of i n f) ≡ span_of i n (λ (j : ℕ). g (f j))
  unfolding span_of
  span_map i zero f g = refl
  span_map i (suc n) f g = ap (λ (l : List B). g (f i) ∷ l) (span_map (i + 1) n f g)

-- each entry's mark for a new milestone
pub span_mark :
    (i n : ℕ) (at : ℕ → State) (legs : ℕ → List Bool) (f : ℕ → Bool) →
    mark_of (span_of i n (λ (j : ℕ). record { at = at j; legs = legs j })) (span_of i n f) ≡ span_of i n (λ (j : ℕ). record { at = at j; legs = legs j ++ (f j ∷ []) })
unfolding span_of mark_of
span_mark i zero at legs f = refl
span_mark i (suc n) at legs f = ap (λ (l : List (Milestone)). record { at = at i; legs = legs i ++ (f i ∷ []) } ∷ l) (span_mark (i + 1) n at legs f)
